-- A newline among the kept bytes: nothing more is taken.
use Rattle.std.proofs.Common.{◌≡◌, ℕ, ◌<◌, List, [], ◌∷◌, ◌++◌, length, refl, ap, ◌∙◌, arith, true, false}
use Rattle.std.specs.Prelude.{nat_eq}
use Rattle.std.specs.List.{list_any}
use Rattle.std.proofs.lemmas.List.{append-nil}
use Rattle.apd_console.specs.declared.draft.Draft.{Draft}
use Rattle.apd_console.specs.Lines.{HasNewline, NoNewline}
use Rattle.apd_console.specs.Console.{Kept}
use Rattle.apd_console.specs.Draft.{TakesPart}

none_among : (bytes : List ℕ) → NoNewline bytes → list_any (λ b. nat_eq b 10) bytes ≡ false
none_among [] none = refl
none_among (b ∷ bytes) none = rw none.0 (none_among bytes none.1)

some_kept : (bytes : List ℕ) → HasNewline bytes → 0 < length bytes
some_kept [] newline = absurd (let e : false ≡ true = newline in cc)
some_kept (b ∷ bytes) newline = omega arith

-- a part that ends no line has no newline
pub no_newline_taken : (k l : Kept) (old new : Draft) → TakesPart k l old new false → ¬ HasNewline k.kept
no_newline_taken k l old new part newline =
    let all : k.kept ≡ part.piece = part.kept ∙ ap (λ (r : List ℕ). part.piece ++ r) (part.rest refl) ∙ append-nil part.piece in
    let none : list_any (λ b. nat_eq b 10) k.kept ≡ false = ap (list_any (λ b. nat_eq b 10)) all ∙ none_among part.piece part.none in
    cc

-- where a newline was kept, the source and the console stay as they were
pub still : {S : Type 0} (k l m : Kept) (x y z : S) → (HasNewline k.kept → (y ≡ x) × (l ≡ k)) → (0 < length l.kept → (z ≡ y) × (m ≡ l)) → HasNewline k.kept → (z ≡ x) × (m ≡ k)
still k l m x y z before step newline =
    let so_far = before newline in
    let here : HasNewline l.kept = rw so_far.1 newline in
    let now = step (some_kept l.kept here) in
    (now.0 ∙ so_far.0, now.1 ∙ so_far.1)
