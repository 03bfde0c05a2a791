-- The boxes that a filter has noted, and those that are strictly inside the one that it skips.
use Rattle.std.proofs.Common.{◌≡◌, ℕ, ◌⊎◌, inl, inr, Bool, true, false, ◌||◌, ◌==◌, if◌then◌else◌, List, [], ◌∷◌, ◌++◌, refl, ap, sym, ◌∙◌, subst, arith, append_assoc}
use Rattle.std.specs.List.{fold}
use Rattle.std.proofs.lemmas.Bool.Decides.{nat_tests}
use Rattle.std.proofs.lemmas.List.{append-nil}
use Rattle.std.proofs.lemmas.List.Folds.{list_any-append}
use Rattle.std.proofs.lemmas.List.Sums.{fold-append}
use Rattle.std.proofs.lemmas.Bool.{or_cases, or_left, or_right}
use Rattle.apd_ports.specs.Filter.{is_among, is_called_inside, with_box, inside_after}
use Rattle.apd_ports.specs.Inside.{IsInside, by_caller, by_inner}
use Rattle.apd_ports.specs.declared.event.Event.{Event}

same_number : (m n : ℕ) → (m == n) ≡ true → m ≡ n
same_number m n is = grind (arith, nat_tests)

itself : (n : ℕ) → (n == n) ≡ true
itself n = grind (arith, nat_tests)

-- a box that is put in
added : (boxes : List ℕ) (m n : ℕ) → is_among (boxes ++ m ∷ []) n ≡ (is_among boxes n || ((m == n) || false))
added boxes m n = list_any-append (λ (k : ℕ). k == n) boxes (m ∷ [])

among_with : (boxes : List ℕ) (m n : ℕ) → is_among (with_box boxes m) n ≡ true → (is_among boxes n ≡ true) ⊎ (m ≡ n)
among_with boxes m n = by (is_among boxes m)
  where
    by : (b : Bool) → is_among (if b then boxes else boxes ++ m ∷ []) n ≡ true → (is_among boxes n ≡ true) ⊎ (m ≡ n)
    by true is = inl is
    by false is = elim (or_cases (is_among boxes n) ((m == n) || false) (sym (added boxes m n) ∙ is)) [
      | inl old ↦ inl old
      | inr new ↦ inr (elim (or_cases (m == n) false new) [ inl same ↦ same_number m n same | inr never ↦ absurd (cc) ])
    ]

among_self : (boxes : List ℕ) (m : ℕ) → is_among (with_box boxes m) m ≡ true
among_self boxes m = by (is_among boxes m) refl
  where
    by : (b : Bool) → is_among boxes m ≡ b → is_among (if b then boxes else boxes ++ m ∷ []) m ≡ true
    by true is = is
    by false is = added boxes m m ∙ or_right (is_among boxes m) ((m == m) || false) (or_left (m == m) false (itself m))

among_more : (boxes : List ℕ) (m n : ℕ) → is_among boxes n ≡ true → is_among (with_box boxes m) n ≡ true
among_more boxes m n old = by (is_among boxes m)
  where
    by : (b : Bool) → is_among (if b then boxes else boxes ++ m ∷ []) n ≡ true
    by true = old
    by false = added boxes m n ∙ or_left (is_among boxes n) ((m == n) || false) old

-- a box that is noted stays so
stays_at : (b : ℕ) (e : Event) (boxes : List ℕ) (n : ℕ) → is_among boxes n ≡ true → is_among (inside_after b boxes e) n ≡ true
stays_at b e boxes n old = by (is_called_inside b boxes e)
  where
    by : (c : Bool) → is_among (if c then with_box boxes e.box_no else boxes) n ≡ true
    by true = among_more boxes e.box_no n old
    by false = old

stays : (b : ℕ) (es : List Event) (boxes : List ℕ) (n : ℕ) → is_among boxes n ≡ true → is_among (fold (inside_after b) boxes es) n ≡ true
stays b [] boxes n old = old
stays b (e ∷ es) boxes n old = stays b es (inside_after b boxes e) n (stays_at b e boxes n old)

-- the box of an event that is called from within is noted
noted : (b : ℕ) (e : Event) (boxes : List ℕ) → is_called_inside b boxes e ≡ true → is_among (inside_after b boxes e) e.box_no ≡ true
noted b e boxes called = by (is_called_inside b boxes e) called
  where
    by : (c : Bool) → c ≡ true → is_among (if c then with_box boxes e.box_no else boxes) e.box_no ≡ true
    by true is = among_self boxes e.box_no
    by false is = absurd (cc)

noted_in : (b : ℕ) (before after : List Event) (e : Event) → is_called_inside b (fold (inside_after b) [] before) e ≡ true → is_among (fold (inside_after b) [] (before ++ e ∷ after)) e.box_no ≡ true
noted_in b before after e called =
    let boxes : List ℕ = fold (inside_after b) [] before in
    ap (λ (ns : List ℕ). is_among ns e.box_no) (fold-append (inside_after b) [] before (e ∷ after))
    ∙ stays b after (inside_after b boxes e) e.box_no (noted b e boxes called)

-- each box that is strictly inside is noted
pub inside_noted : (b : ℕ) (es : List Event) (n : ℕ) → IsInside b es n → is_among (fold (inside_after b) [] es) n ≡ true
inside_noted b es n (by_caller before after e is) =
    noted_in b before after e (or_left (e.caller == b) _ (subst (λ (c : ℕ). (c == b) ≡ true) (sym is) (itself b)))
inside_noted b es n (by_inner before after e inner) =
    noted_in b before after e (or_right (e.caller == b) _ (inside_noted b before e.caller inner))

-- a box that is strictly inside stays so
later : (b : ℕ) (es more : List Event) (n : ℕ) → IsInside b es n → IsInside b (es ++ more) n
later b es more n (by_caller before after e is) =
    subst (λ (xs : List Event). IsInside b xs e.box_no) (sym (append_assoc before (e ∷ after) more)) (by_caller before (after ++ more) e is)
later b es more n (by_inner before after e inner) =
    subst (λ (xs : List Event). IsInside b xs e.box_no) (sym (append_assoc before (e ∷ after) more)) (by_inner before (after ++ more) e inner)

AllInside : ℕ → List Event → List ℕ → Type 0
AllInside b es boxes = (n : ℕ) → is_among boxes n ≡ true → IsInside b es n

next_inside : (b : ℕ) (done : List Event) (e : Event) (boxes : List ℕ) → AllInside b done boxes → AllInside b (done ++ e ∷ []) (inside_after b boxes e)
unfolding AllInside
next_inside b done e boxes so n = by (is_called_inside b boxes e) refl
  where
    here : is_called_inside b boxes e ≡ true → IsInside b (done ++ e ∷ []) e.box_no
    here called = elim (or_cases (e.caller == b) (is_among boxes e.caller) called) [
      | inl outer ↦ by_caller done [] e (same_number e.caller b outer)
      | inr inner ↦ by_inner done [] e (so e.caller inner)
    ]

    by : (c : Bool) → is_called_inside b boxes e ≡ c → is_among (if c then with_box boxes e.box_no else boxes) n ≡ true → IsInside b (done ++ e ∷ []) n
    by false other is = later b done (e ∷ []) n (so n is)
    by true called is = elim (among_with boxes e.box_no n is) [
      | inl old ↦ later b done (e ∷ []) n (so n old)
      | inr same ↦ subst (λ (m : ℕ). IsInside b (done ++ e ∷ []) m) same (here called)
    ]

all_inside : (b : ℕ) (done es : List Event) (boxes : List ℕ) → AllInside b done boxes → AllInside b (done ++ es) (fold (inside_after b) boxes es)
unfolding AllInside
all_inside b done [] boxes so n is = subst (λ (xs : List Event). IsInside b xs n) (sym (append-nil done)) (so n is)
all_inside b done (e ∷ es) boxes so n is =
    subst (λ (xs : List Event). IsInside b xs n) (append_assoc done (e ∷ []) es) (all_inside b (done ++ e ∷ []) es (inside_after b boxes e) (next_inside b done e boxes so) n is)

-- each box that is noted is strictly inside
pub noted_inside : (b : ℕ) (es : List Event) (n : ℕ) → is_among (fold (inside_after b) [] es) n ≡ true → IsInside b es n
unfolding AllInside
noted_inside b es n is = all_inside b [] es [] (λ m none. absurd (cc)) n is
