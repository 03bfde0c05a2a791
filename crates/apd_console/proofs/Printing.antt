-- Bytes on their way to a sink.
use Rattle.std.proofs.Common.{◌≡◌, ℕ, List, [], ◌++◌, take, drop, refl, sym, append_assoc, Option, Some, None}
use Rattle.std.proofs.lemmas.List.{append-nil, take-append-drop}
use Rattle.apd_io.specs.Outside.{Adds}
use Rattle.apd_console.specs.Print.{Prints, AddsFront}

pub Adds-self : (x : Option (List ℕ)) → Adds x x []
Adds-self None = tt
Adds-self (Some xs) = sym (append-nil xs)

pub Adds-more : (x y z : Option (List ℕ)) (a b : List ℕ) → Adds x y a → Adds y z b → Adds x z (a ++ b)
Adds-more None None None a b first second = tt
Adds-more None None (Some zs) a b first second = absurd second
Adds-more None (Some ys) z a b first second = absurd first
Adds-more (Some xs) None z a b first second = absurd first
Adds-more (Some xs) (Some ys) None a b first second = absurd second
Adds-more (Some xs) (Some ys) (Some zs) a b first second = rw (second, first) (append_assoc xs a b)

pub Prints-more : (x y z : Option (List ℕ)) (bytes rest next : List ℕ) (n : ℕ) → Prints x y bytes rest → Adds y z (take n rest) → next ≡ drop n rest → Prints x z bytes next
Prints-more x y z bytes rest next n before adds is = record {
  shown = before.shown ++ take n rest;
  parts = rw (is, append_assoc before.shown (take n rest) (drop n rest), take-append-drop n rest) before.parts;
  adds = Adds-more x y z _ _ before.adds adds;
}

pub Prints-front : (x y z : Option (List ℕ)) (bytes rest : List ℕ) → Prints x y bytes rest → z ≡ y → AddsFront x z bytes
Prints-front x y z bytes rest prints same = (rest, record { shown = prints.shown; parts = prints.parts; adds = rw same prints.adds })

-- a text that is printed piece by piece
pub front_self : (x : Option (List ℕ)) (bytes : List ℕ) → AddsFront x x bytes
front_self x bytes = (bytes, record { shown = []; parts = refl; adds = Adds-self x })
