-- Terms in a list stay as symbols and shared terms come behind.
use Rattle.std.proofs.Common.{◌≡◌, ℕ, ◌+◌, ◌<◌, ◌≤◌, ◌^◌, List, [], ◌∷◌, ◌++◌, length, take, drop, get_or, Some, Result, Ok, Err, inl, inr, refl, ap, sym, subst, ◌∙◌, arith, length-append, append-nil}
use Rattle.std.specs.Prelude.{slice_get, All, OnErr}
use Rattle.std.specs.Option.{option_map}
use Rattle.std.proofs.lemmas.List.{get_or_append_left, take-append-le, drop-append-le, length-drop, length-map, map-append, get_or_at, drop_at, take_all}
use Rattle.std.proofs.lemmas.List.Elements.{All-nil, All-head, All-tail, All-cons, All-push}
use Rattle.std.proofs.lemmas.Option.{slice_get-map, slice_get_within, get_or_from_slice_get, slice_get-get_or}
use Rattle.apd_term.specs.declared.term.Sym.{Sym}
use Rattle.apd_term.specs.Term.{Term, variable, spell, term_of, IsWhole}
use Rattle.apd_term.specs.Spelling.{term_of-spell}
use Rattle.apd_term.proofs.Spelling.{whole_from_spelled}
use Rattle.apd_intern.specs.declared.term_list.TermSpot.{TermSpot}
use Rattle.apd_intern.specs.declared.term_list.TermSpot.TheVariants.{Written, Shared}
use Rattle.apd_intern.specs.Nodes.{IsFrontOf}
use Rattle.apd_intern.specs.Listed.{kept_at, IsKept, Keeps, listed, AreListed, MayAdd}

-- Growing.

spot_front : (symbols more : List Sym) (shared others : List Term) (s : TermSpot) → IsKept symbols shared s
    → IsKept (symbols ++ more) (shared ++ others) s × (kept_at (symbols ++ more) (shared ++ others) s ≡ kept_at symbols shared s)
spot_front symbols more shared others (Written from n) h =
    let within : from + n ≤ length symbols = h.0 in
    let e : take n (drop from (symbols ++ more)) ≡ take n (drop from symbols) =
    ap (take n) (drop-append-le from symbols more (omega (arith, within))) ∙ take-append-le n (drop from symbols) more (omega (arith, within, length-drop from symbols)) in
    ((omega (arith, within, length-append symbols more), subst IsWhole (sym e) h.1), ap term_of e)
spot_front symbols more shared others (Shared p) h = (omega (arith, h, length-append shared others), get_or_append_left shared others (variable 0) p h)

spots_front : (symbols more : List Sym) (shared others : List Term) (spots : List TermSpot) → All (IsKept symbols shared) spots
    → All (IsKept (symbols ++ more) (shared ++ others)) spots × (listed (symbols ++ more) (shared ++ others) spots ≡ listed symbols shared spots)
spots_front symbols more shared others [] h = (All-nil (IsKept (symbols ++ more) (shared ++ others)), refl)
spots_front symbols more shared others (s ∷ spots) h =
    let one = spot_front symbols more shared others s (All-head (IsKept symbols shared) s spots h) in
    let rest = spots_front symbols more shared others spots (All-tail (IsKept symbols shared) s spots h) in (
      All-cons (IsKept (symbols ++ more) (shared ++ others)) s spots one.0 rest.0,
      ap (λ t. t ∷ listed (symbols ++ more) (shared ++ others) spots) one.1 ∙ ap (λ ts. kept_at symbols shared s ∷ ts) rest.1,
    )

-- the terms at the same spots
pub record IsSame (symbols : List Sym) (shared : List Term) (spots : List TermSpot) (symbols' : List Sym) (shared' : List Term) : Type 0 where
  pub held : AreListed symbols' shared' spots
  pub same : listed symbols' shared' spots ≡ listed symbols shared spots

pub listed_front : (symbols symbols' : List Sym) (shared shared' : List Term) (spots : List TermSpot) → AreListed symbols shared spots → IsFrontOf symbols symbols' → IsFrontOf shared shared'
    → IsSame symbols shared spots symbols' shared'
listed_front symbols symbols' shared shared' spots h f g =
    let P : List Sym → List Term → Type 0 = λ cs ts. All (IsKept cs ts) spots × (listed cs ts spots ≡ listed symbols shared spots) in
    let all : P (symbols ++ f.0) (shared ++ g.0) = spots_front symbols f.0 shared g.0 spots h.kept in
    let moved : P symbols' shared' = subst (λ ts. P symbols' ts) g.1 (subst (λ cs. P cs (shared ++ g.0)) f.1 all) in
    record { held = record { kept = moved.0; few = h.few }; same = moved.1 }

-- one more spot
pub record IsLonger (symbols : List Sym) (shared : List Term) (spots spots' : List TermSpot) (t : Term) : Type 0 where
  pub held : AreListed symbols shared spots'
  pub grown : listed symbols shared spots' ≡ listed symbols shared spots ++ t ∷ []

pub listed_push : (symbols : List Sym) (shared : List Term) (spots spots' : List TermSpot) (s : TermSpot) (t : Term) → AreListed symbols shared spots → Keeps symbols shared s t
    → spots' ≡ spots ++ s ∷ [] → length spots' < 2 ^ 32 → IsLonger symbols shared spots spots' t
listed_push symbols shared spots spots' s t h k e few =
    record {
      held = record { kept = subst (All (IsKept symbols shared)) (sym e) (All-push (IsKept symbols shared) spots s h.kept k.0); few = few };
      grown = ap (listed symbols shared) e ∙ map-append (kept_at symbols shared) spots (s ∷ []) ∙ ap (λ u. listed symbols shared spots ++ u ∷ []) k.1;
    }

-- the place of the new one
pub longer_at : (symbols : List Sym) (shared : List Term) (spots spots' : List TermSpot) (t : Term) (p : ℕ) → IsLonger symbols shared spots spots' t → p ≡ length spots
    → slice_get (listed symbols shared spots') p ≡ Some t
longer_at symbols shared spots spots' t p h is =
    let ts : List Term = listed symbols shared spots in
    let n : length ts ≡ length spots = length-map spots (kept_at symbols shared) in
    let within : p < length (ts ++ t ∷ []) = omega (arith, length-append ts (t ∷ []), n, is) in
    let last : get_or (ts ++ t ∷ []) p (variable 0) ≡ t = get_or_at ts t [] (variable 0) p (n ∙ sym is) in
    ap (λ us. slice_get us p) h.grown ∙ slice_get-get_or (ts ++ t ∷ []) p (variable 0) within ∙ ap Some last

-- no term comes behind
pub front_same : {X : Type 0} (xs ys : List X) → ys ≡ xs → IsFrontOf xs ys
front_same xs ys e = ([], append-nil xs ∙ sym e)

pub added_front : (t : Term) (old new : List Term) → MayAdd t old new → IsFrontOf old new
added_front t old new (inl e) = front_same old new e
added_front t old new (inr e) = (t ∷ [], sym e)

-- what holds at all holds after an error
pub on_err_at_all : {X E : Type 0} (r : Result X E) (P : Type 0) → P → OnErr r P
on_err_at_all (Ok x) P h = tt
on_err_at_all (Err e) P h = h

-- Reading.

pub listed_at : (symbols : List Sym) (shared : List Term) (spots : List TermSpot) (p : ℕ) (s : TermSpot) → slice_get spots p ≡ Some s → slice_get (listed symbols shared spots) p ≡ Some (kept_at symbols shared s)
listed_at symbols shared spots p s at = slice_get-map (kept_at symbols shared) spots p ∙ ap (option_map (kept_at symbols shared)) at

pub written_at : (symbols : List Sym) (shared : List Term) (spots : List TermSpot) (p from n : ℕ) (t : Term) → slice_get spots p ≡ Some (Written from n) → take n (drop from symbols) ≡ spell t
    → slice_get (listed symbols shared spots) p ≡ Some t
written_at symbols shared spots p from n t at e = listed_at symbols shared spots p (Written from n) at ∙ ap Some (ap term_of e ∙ term_of-spell t)

-- Writing.

pub written_behind : (symbols symbols' : List Sym) (shared : List Term) (from n : ℕ) (t : Term) → symbols' ≡ symbols ++ spell t → from ≡ length symbols → n ≡ length (spell t)
    → Keeps symbols' shared (Written from n) t
written_behind symbols symbols' shared from n t e is size =
    let all : take n (drop from symbols') ≡ spell t =
    ap (λ cs. take n (drop from cs)) e ∙ ap (take n) (drop_at symbols (spell t) from (sym is)) ∙ take_all n (spell t) (omega (arith, size)) in
    let within : from + n ≤ length symbols' = omega (arith, ap length e, length-append symbols (spell t), is, size) in
    ((within, whole_from_spelled (take n (drop from symbols')) t all), ap term_of all ∙ term_of-spell t)

pub shared_there : (symbols : List Sym) (shared : List Term) (p : ℕ) (t : Term) → slice_get shared p ≡ Some t → Keeps symbols shared (Shared p) t
shared_there symbols shared p t at = (slice_get_within shared p t at, get_or_from_slice_get shared p t (variable 0) at)
