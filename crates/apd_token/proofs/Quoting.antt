-- A quoted item, or the fault in its place, is read in one way.
use Rattle.std.proofs.Common.{◌≡◌, ℕ, ◌+◌, List, [], ◌∷◌, ◌++◌, length, refl, sym, ◌∙◌, ap, subst, ◌⊎◌, inl, inr, Bool, true, false, ◌==◌, ◌||◌, arith, append_assoc, length-append, if◌then◌else◌}
use borrow.Author.Tests.{eqb-true}
use Rattle.apd_token.specs.Bytes.{class_of}
use Rattle.apd_token.specs.Quotes.{ElementOf, Element, spelling, NoElement}
use Rattle.apd_token.specs.Grammar.{NotNext, StopOf, QuoteForm, FormOf, Begins}
use Rattle.apd_token.specs.declared.bytes.Class.{Class}
use Rattle.apd_token.specs.declared.bytes.Class.TheVariants as classes
use Rattle.apd_causes.specs.declared.faults.TokenFault.TheVariants as faults
use Rattle.apd_token.specs.declared.found.Found.{Found}
use Rattle.apd_token.specs.declared.found.Found.TheVariants.{Bad}
use Rattle.apd_token.proofs.Elements.{one_body}

-- a quote is one of two bytes
abbrev pub IsQuote : ℕ → Type 0
IsQuote q = (q ≡ 39) ⊎ (q ≡ 34)

pub quote_chain : (a b c d e f g h i j : Bool) (q : ℕ) → ((i || j) ≡ true → IsQuote q) → (if a then classes.Layout else (if b then classes.Small else (if c then classes.Capital else (if d then classes.Digit
    else (if e then classes.Graphic else (if f then classes.Bracket else (if g then classes.Solo else (if h then classes.Percent else (if i || j then classes.Quote else classes.Other))))))))) ≡ classes.Quote → IsQuote q
quote_chain true b c d e f g h i j q k p = cc
quote_chain false true c d e f g h i j q k p = cc
quote_chain false false true d e f g h i j q k p = cc
quote_chain false false false true e f g h i j q k p = cc
quote_chain false false false false true f g h i j q k p = cc
quote_chain false false false false false true g h i j q k p = cc
quote_chain false false false false false false true h i j q k p = cc
quote_chain false false false false false false false true i j q k p = cc
quote_chain false false false false false false false false true j q k p = k refl
quote_chain false false false false false false false false false true q k p = k refl
quote_chain false false false false false false false false false false q k p = cc

either : (q : ℕ) (i j : Bool) → (i ≡ true → q ≡ 39) → (j ≡ true → q ≡ 34) → (i || j) ≡ true → IsQuote q
either q true j p r h = inl (p refl)
either q false true p r h = inr (r refl)
either q false false p r h = cc

pub class_quote : (q : ℕ) → class_of q ≡ classes.Quote → IsQuote q
class_quote q e = quote_chain _ _ _ _ _ _ _ _ (q == 39) (q == 34) q (either q (q == 39) (q == 34) (eqb-true q 39) (eqb-true q 34)) e

not_backslash : (q : ℕ) → IsQuote q → q ≡ 92 → ⊥
not_backslash q is e = elim is [ inl a ↦ cc | inr b ↦ cc ]

-- a quote that isn't doubled begins no element
element_at_quote : (q : ℕ) → IsQuote q → (bs value : List ℕ) → ElementOf (q == 92) (q == q) q q bs value → bs ≡ q ∷ []
element_at_quote q (inl a) bs value el = let el' : ElementOf (39 == 92) (39 == 39) 39 39 bs value = subst (λ (n : ℕ). ElementOf (n == 92) (n == n) n n bs value) a el in el'.0 ∙ ap (λ n. n ∷ []) (sym a)
element_at_quote q (inr a) bs value el = let el' : ElementOf (34 == 92) (34 == 34) 34 34 bs value = subst (λ (n : ℕ). ElementOf (n == 92) (n == n) n n bs value) a el in el'.0 ∙ ap (λ n. n ∷ []) (sym a)

pub none_at_end : (q : ℕ) → NoElement q []
none_at_end q [] value rest el e = el
none_at_end q (b ∷ bs) value rest el e = cc

pub none_at_close : (q : ℕ) (after : List ℕ) → IsQuote q → NotNext q after → NoElement q (q ∷ after)
none_at_close q after is not_next [] value rest el e = el
none_at_close q after is not_next (b ∷ bs) value rest el e =
    let head : b ≡ q = cc in
    let tail : after ≡ bs ++ rest = cc in
    let twice = element_at_quote q is bs value (subst (λ (n : ℕ). ElementOf (n == 92) (n == q) q n bs value) head el) in
    let next : after ≡ q ∷ rest = tail ∙ ap (λ l. l ++ rest) twice in
    (subst (NotNext q) next not_next) refl

pub stop_none : (at place : ℕ) (w : Found) (q : ℕ) (stop after : List ℕ) → IsQuote q → StopOf at place w q stop after → NoElement q (stop ++ after)
stop_none at place w q [] after is s = subst (NoElement q) (sym s.0) (none_at_end q)
stop_none at place w q (c ∷ more) after is s = elim s.1 [
  | inl close ↦ subst (NoElement q) (λ i. sym close.0 i ∷ (sym s.0 i ++ after)) (none_at_close q after is close.1)
  | inr bad ↦ subst (NoElement q) (λ i. sym bad.0 i ∷ (sym s.0 i ++ after)) bad.1
]

one_stop : (at place : ℕ) (w v : Found) (q : ℕ) (stop halt after rest : List ℕ) → IsQuote q → StopOf at place w q stop after → StopOf at place v q halt rest → stop ++ after ≡ halt ++ rest → (stop ≡ halt) × (w ≡ v)
one_stop at place w v q [] [] after rest is s t e = (refl, s.1 ∙ sym t.1)
one_stop at place w v q [] (d ∷ more) after rest is s t e = let h = s.0 in cc
one_stop at place w v q (c ∷ more) [] after rest is s t e = let h = t.0 in cc
one_stop at place w v q (c ∷ more) (d ∷ less) after rest is s t e =
    let head : c ≡ d = cc in
    let same : c ∷ more ≡ d ∷ less = λ i. head i ∷ (s.0 ∙ sym t.0) i in (
      same,
      elim s.1 [
        | inl close ↦ elim t.1 [ inl shut ↦ close.2 ∙ sym shut.2 | inr bad ↦ absurd (not_backslash q is (sym close.0 ∙ head ∙ bad.0)) ]
        | inr wrong ↦ elim t.1 [ inl shut ↦ absurd (not_backslash q is (sym shut.0 ∙ sym head ∙ wrong.0)) | inr bad ↦ wrong.2 ∙ sym bad.2 ]
      ],
    )

pub one_quoted : (at : ℕ) (w v : Found) (q : ℕ) (bs cs after rest : List ℕ) → IsQuote q → (x : QuoteForm at w q bs after) → (y : QuoteForm at v q cs rest) → bs ++ after ≡ cs ++ rest
    → (x.elements ≡ y.elements) × (bs ≡ cs) × (w ≡ v)
one_quoted at w v q bs cs after rest is x y e =
    let left : bs ++ after ≡ spelling x.elements ++ (x.stop ++ after) = ap (λ l. l ++ after) x.spelled ∙ append_assoc (spelling x.elements) x.stop after in
    let right : cs ++ rest ≡ spelling y.elements ++ (y.stop ++ rest) = ap (λ l. l ++ rest) y.spelled ∙ append_assoc (spelling y.elements) y.stop rest in
    let body = one_body q x.elements y.elements (x.stop ++ after) (y.stop ++ rest) x.each y.each
    (stop_none at (at + 1 + length (spelling x.elements)) w q x.stop after is x.stops)
    (stop_none at (at + 1 + length (spelling y.elements)) v q y.stop rest is y.stops) (sym left ∙ e ∙ right) in
    let y' : StopOf at (at + 1 + length (spelling x.elements)) v q y.stop rest = subst (λ (es : List Element). StopOf at (at + 1 + length (spelling es)) v q y.stop rest) (sym body.0) y.stops in
    let stops = one_stop at (at + 1 + length (spelling x.elements)) w v q x.stop y.stop after rest is x.stops y' body.1 in
    (body.0, x.spelled ∙ (λ i. spelling (body.0 i) ++ stops.0 i) ∙ sym y.spelled, stops.1)

pub no_longer : (xs : List ℕ) (c : ℕ) (more : List ℕ) → xs ≡ xs ++ c ∷ more → ⊥
no_longer xs c more e = let len : length xs ≡ length xs + length (c ∷ more) = ap length e ∙ length-append xs (c ∷ more) in omega arith

pub quoted : (at : ℕ) (w : Found) (q : ℕ) (bs after : List ℕ) → class_of q ≡ classes.Quote → QuoteForm at w q bs after → Begins at w (q ∷ bs) after ((q ∷ bs) ++ after)
quoted at w q bs after e form = record {
  spelled = refl;
  form = subst (λ (k : Class). FormOf k at w q bs after) (sym e) form;
  longest = λ v c more rest behind longer.
      let longer' : QuoteForm at v q (bs ++ c ∷ more) rest = subst (λ (k : Class). FormOf k at v q (bs ++ c ∷ more) rest) e longer in
      no_longer bs c more (one_quoted at w v q bs (bs ++ c ∷ more) after rest (class_quote q e) form longer'
      (ap (λ l. bs ++ l) behind ∙ sym (append_assoc bs (c ∷ more) rest))).1;
}

pub no_utf8_stop : (at place n : ℕ) (q : ℕ) (stop after : List ℕ) → StopOf at place (Bad (faults.NotUtf8 n)) q stop after → ⊥
no_utf8_stop at place n q [] after s = let h = s.1 in cc
no_utf8_stop at place n q (c ∷ more) after s = elim s.1 [ inl close ↦ let h = close.2 in cc | inr bad ↦ let h = bad.2 in cc ]
