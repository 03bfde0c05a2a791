-- What stands between quotes is read in one way.
use Rattle.std.proofs.Common.{◌≡◌, ℕ, List, [], ◌∷◌, ◌++◌, refl, sym, ◌∙◌, ap, subst, inl, inr, Bool, true, false, ◌==◌, append_assoc}
use Rattle.std.specs.Prelude.{encode_utf8}
use Rattle.apd_token.specs.Bytes.{in_set, escape_of}
use Rattle.apd_token.specs.Quotes.{AllIn, numeral, IsDigits, CodeOf, EscapeOf, ElementOf, IsElement, Element, AreElements, spelling, NoElement}
use Rattle.apd_token.specs.Scan.{StopsRun}
use Rattle.apd_token.specs.declared.bytes.Set.{Set}
use Rattle.apd_token.specs.declared.bytes.Set.TheVariants as sets
use Rattle.apd_token.specs.declared.bytes.Escape.{Escape}
use Rattle.apd_token.specs.declared.bytes.Escape.TheVariants.{Newline, Octal, Hex, Simple, Unknown}
use Rattle.apd_token.proofs.Cut.{Extends, cut_cases}

pub AllIn-right : (set : Set) (xs ys : List ℕ) → AllIn set (xs ++ ys) → AllIn set ys
AllIn-right set [] ys all = all
AllIn-right set (x ∷ xs) ys all = AllIn-right set xs ys all.1

-- two ways to cut are one
pub record OneCut (a b r s : List ℕ) : Type 0 where
  pub front : a ≡ b
  pub back : r ≡ s

-- a run up to where it stops is cut in one way
no_further : (set : Set) (a r b s : List ℕ) → Extends a r b s → AllIn set b → StopsRun set r → ⊥
no_further set a r b s x all stops =
    let yes : in_set set x.next ≡ true = (AllIn-right set a (x.next ∷ x.more) (subst (AllIn set) x.longer all)).0 in
    let no_more : in_set set x.next ≡ false = subst (StopsRun set) x.behind stops in cc

pub run_cut : (set : Set) (a b r s : List ℕ) → AllIn set a → AllIn set b → StopsRun set r → StopsRun set s → a ++ r ≡ b ++ s → OneCut a b r s
run_cut set a b r s p q h k e = elim (cut_cases a b r s e) [
  | inl same ↦ record { front = same.0; back = same.1 }
  | inr rest ↦ elim rest [ inl x ↦ absurd (no_further set a r b s x q h) | inr x ↦ absurd (no_further set b s a r x p k) ]
]

-- digits and a backslash are cut in one way
digits_cut : (set : Set) (a b ds es r s : List ℕ) → in_set set 92 ≡ false → IsDigits set a ds → IsDigits set b es → a ++ r ≡ b ++ s → OneCut ds es r s
digits_cut set a b ds es r s stop p q e =
    let left : a ++ r ≡ ds ++ 92 ∷ r = ap (λ l. l ++ r) p.spelled ∙ append_assoc ds (92 ∷ []) r in
    let right : b ++ s ≡ es ++ 92 ∷ s = ap (λ l. l ++ s) q.spelled ∙ append_assoc es (92 ∷ []) s in
    let one = run_cut set ds es (92 ∷ r) (92 ∷ s) p.each q.each stop stop (sym left ∙ e ∙ right) in
    record { front = one.front; back = let h = one.back in cc }

pub record OneRead {V : Type 0} (a b : List ℕ) (u v : V) (r s : List ℕ) : Type 0 where
  pub bytes : a ≡ b
  pub value : u ≡ v
  pub back : r ≡ s

pub one_code : (kind : Escape) (e : ℕ) (a b r s : List ℕ) (c d : ℕ) → CodeOf kind e a c → CodeOf kind e b d → a ++ r ≡ b ++ s → OneRead a b c d r s
one_code Newline e a b r s c d p q h = absurd p
one_code Octal e a b r s c d p q h =
    let one = digits_cut sets.Octal a b p.0 q.0 r s refl p.1 q.1 h in
    record { bytes = p.1.spelled ∙ ap (λ l. l ++ 92 ∷ []) one.front ∙ sym q.1.spelled; value = p.2 ∙ ap (λ l. numeral 8 (e ∷ l)) one.front ∙ sym q.2; back = one.back }
one_code Hex e a b r s c d p q h =
    let one = digits_cut sets.Hex a b p.0 q.0 r s refl p.1 q.1 h in
    record { bytes = p.1.spelled ∙ ap (λ l. l ++ 92 ∷ []) one.front ∙ sym q.1.spelled; value = p.3 ∙ ap (numeral 16) one.front ∙ sym q.3; back = one.back }
one_code Simple e a b r s c d p q h = record { bytes = p.0 ∙ sym q.0; value = p.1 ∙ sym q.1; back = ap (λ l. l ++ r) (sym p.0) ∙ h ∙ ap (λ l. l ++ s) q.0 }
one_code Unknown e a b r s c d p q h = absurd p

one_coded : (kind : Escape) (e : ℕ) (a b r s : List ℕ) (u v : List ℕ) → (c : ℕ) × CodeOf kind e a c × (u ≡ encode_utf8 c) → (d : ℕ) × CodeOf kind e b d × (v ≡ encode_utf8 d) → a ++ r ≡ b ++ s → OneRead a b u v r s
one_coded kind e a b r s u v p q h =
    let one = one_code kind e a b r s p.0 q.0 p.1 q.1 h in
    record { bytes = one.bytes; value = p.2 ∙ ap encode_utf8 one.value ∙ sym q.2; back = one.back }

one_escape : (kind : Escape) (e : ℕ) (a b r s u v : List ℕ) → EscapeOf kind e a u → EscapeOf kind e b v → a ++ r ≡ b ++ s → OneRead a b u v r s
one_escape Newline e a b r s u v p q h = record { bytes = p.0 ∙ sym q.0; value = p.1 ∙ sym q.1; back = ap (λ l. l ++ r) (sym p.0) ∙ h ∙ ap (λ l. l ++ s) q.0 }
one_escape Octal e a b r s u v p q h = one_coded Octal e a b r s u v p q h
one_escape Hex e a b r s u v p q h = one_coded Hex e a b r s u v p q h
one_escape Simple e a b r s u v p q h = one_coded Simple e a b r s u v p q h
one_escape Unknown e a b r s u v p q h = absurd p

one_of : (t w : Bool) (q b : ℕ) (a d r s u v : List ℕ) → ElementOf t w q b a u → ElementOf t w q b d v → a ++ r ≡ d ++ s → OneRead a d u v r s
one_of true w q b [] d r s u v x y h = absurd x
one_of true w q b (e ∷ a) [] r s u v x y h = absurd y
one_of true w q b (e ∷ a) (f ∷ d) r s u v x y h =
    let head : f ≡ e = cc in
    let tail : a ++ r ≡ d ++ s = cc in
    let y' : EscapeOf (escape_of e) e d v = subst (λ (n : ℕ). EscapeOf (escape_of n) n d v) head y in
    let one = one_escape (escape_of e) e a d r s u v x y' tail in
    record { bytes = λ i. sym head i ∷ one.bytes i; value = one.value; back = one.back }
one_of false true q b a d r s u v x y h =
    let back : r ≡ s = let g : (q ∷ []) ++ r ≡ (q ∷ []) ++ s = ap (λ l. l ++ r) (sym x.0) ∙ h ∙ ap (λ l. l ++ s) y.0 in cc in
    record { bytes = x.0 ∙ sym y.0; value = x.1 ∙ sym y.1; back = back }
one_of false false q b a d r s u v x y h = record { bytes = x.0 ∙ sym y.0; value = x.1 ∙ sym y.1; back = ap (λ l. l ++ r) (sym x.0) ∙ h ∙ ap (λ l. l ++ s) y.0 }

-- a text begins with one element
pub one_element : (q : ℕ) (a b r s u v : List ℕ) → IsElement q a u → IsElement q b v → a ++ r ≡ b ++ s → OneRead a b u v r s
one_element q [] b r s u v x y h = absurd x
one_element q (c ∷ a) [] r s u v x y h = absurd y
one_element q (c ∷ a) (d ∷ b) r s u v x y h =
    let head : d ≡ c = cc in
    let tail : a ++ r ≡ b ++ s = cc in
    let y' : ElementOf (c == 92) (c == q) q c b v = subst (λ (n : ℕ). ElementOf (n == 92) (n == q) q n b v) head y in
    let one = one_of (c == 92) (c == q) q c a b r s u v x y' tail in
    record { bytes = λ i. sym head i ∷ one.bytes i; value = one.value; back = one.back }

-- what stands between quotes is these elements, up to where none stands
pub one_body : (q : ℕ) (es fs : List Element) (r s : List ℕ) → AreElements q es → AreElements q fs → NoElement q r → NoElement q s → spelling es ++ r ≡ spelling fs ++ s → (es ≡ fs) × (r ≡ s)
one_body q [] [] r s x y h k e = (refl, e)
one_body q [] (f ∷ fs) r s x y h k e = absurd (h f.bytes f.value (spelling fs ++ s) y.0 (e ∙ append_assoc f.bytes (spelling fs) s))
one_body q (e ∷ es) [] r s x y h k g = absurd (k e.bytes e.value (spelling es ++ r) x.0 (sym g ∙ append_assoc e.bytes (spelling es) r))
one_body q (e ∷ es) (f ∷ fs) r s x y h k g =
    let one = one_element q e.bytes f.bytes (spelling es ++ r) (spelling fs ++ s) e.value f.value x.0 y.0 (sym (append_assoc e.bytes (spelling es) r) ∙ g ∙ append_assoc f.bytes (spelling fs) s) in
    let rest = one_body q es fs r s x.1 y.1 h k one.back in
    ((λ i. record { bytes = one.bytes i; value = one.value i } ∷ rest.0 i), rest.1)
