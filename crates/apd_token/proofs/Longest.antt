-- What the scanner takes is the longest piece.
use Rattle.std.proofs.Common.{◌≡◌, ℕ, ◌≤◌, ◌^◌, List, [], ◌∷◌, ◌++◌, refl, sym, ◌∙◌, ap, subst, inl, inr, true, false, append_assoc}
use Rattle.std.proofs.lemmas.List.{same_from_push}
use Rattle.apd_token.specs.Bytes.{class_of, in_set, mark_of}
use Rattle.apd_token.specs.Quotes.{AllIn}
use Rattle.apd_token.specs.Grammar.{NumberForm, MarkedForm, CharForm, HasNoClose, BeginsComment, GraphicForm, decimal, number, DigitForm, FormOf, Begins}
use Rattle.apd_token.specs.Scan.{StopsRun, NoMarked}
use Rattle.apd_token.specs.declared.bytes.NumberMark.{NumberMark}
use Rattle.apd_token.specs.declared.bytes.Class.{Class}
use Rattle.apd_token.specs.declared.bytes.Class.TheVariants as classes
use Rattle.apd_token.specs.declared.bytes.Set.{Set}
use Rattle.apd_token.specs.declared.bytes.Set.TheVariants as sets
use Rattle.apd_token.specs.declared.items.TokenKind.{TokenKind}
use Rattle.apd_causes.specs.declared.faults.TokenFault.TheVariants as faults
use Rattle.apd_token.specs.declared.found.Found.{Found}
use Rattle.apd_token.specs.declared.found.Found.TheVariants.{Passed, Item, Bad}
use Rattle.apd_token.proofs.Quoting.{no_longer}
use Rattle.apd_token.proofs.Marks.{no_decimal, one_char}
use Rattle.apd_token.proofs.Cut.{cut_cases}
use Rattle.apd_token.proofs.Elements.{AllIn-right}

-- Of a class whose forms are each the first byte alone, one byte is the longest.
pub alone : (cls : Class) (at : ℕ) (w : Found) (b : ℕ) (after : List ℕ) → class_of b ≡ cls
    → FormOf cls at w b [] after
    → ((v : Found) (bs rest : List ℕ) → FormOf cls at v b bs rest → bs ≡ [])
    → Begins at w (b ∷ []) after ((b ∷ []) ++ after)
alone cls at w b after e form only = record {
  spelled = refl;
  form = subst (λ (k : Class). FormOf k at w b [] after) (sym e) form;
  longest = λ v c more rest behind longer.
      let h : c ∷ more ≡ [] = only v (c ∷ more) rest (subst (λ (k : Class). FormOf k at v b (c ∷ more) rest) e longer) in cc;
}

-- a run isn't longer than up to where it stops
pub no_longer_run : (set : Set) (bs after more rest : List ℕ) (c : ℕ) → StopsRun set after → after ≡ c ∷ (more ++ rest) → AllIn set (bs ++ c ∷ more) → ⊥
no_longer_run set bs after more rest c stops behind all =
    let yes : in_set set c ≡ true = (AllIn-right set bs (c ∷ more) all).0 in
    let no : in_set set c ≡ false = subst (StopsRun set) behind stops in cc

-- Of a class whose forms are runs, one up to where it stops is the longest.
pub run : (cls : Class) (set : Set) (at : ℕ) (w : Found) (b : ℕ) (bs after : List ℕ) → class_of b ≡ cls
    → FormOf cls at w b bs after
    → ((v : Found) (cs rest : List ℕ) → FormOf cls at v b cs rest → AllIn set cs)
    → StopsRun set after
    → Begins at w (b ∷ bs) after ((b ∷ bs) ++ after)
run cls set at w b bs after e form only stops = record {
  spelled = refl;
  form = subst (λ (k : Class). FormOf k at w b bs after) (sym e) form;
  longest = λ v c more rest behind longer.
      no_longer_run set bs after more rest c stops behind (only v (bs ++ c ∷ more) rest (subst (λ (k : Class). FormOf k at v b (bs ++ c ∷ more) rest) e longer));
}

-- graphic pieces, from what is longest among them
pub from_graphic : (at : ℕ) (w : Found) (b : ℕ) (bs after : List ℕ) → class_of b ≡ classes.Graphic
    → GraphicForm at w (b ∷ bs) after
    → ((v : Found) (c : ℕ) (more rest : List ℕ) → after ≡ c ∷ (more ++ rest) → GraphicForm at v ((b ∷ bs) ++ c ∷ more) rest → ⊥)
    → Begins at w (b ∷ bs) after ((b ∷ bs) ++ after)
from_graphic at w b bs after e form longest = record {
  spelled = refl;
  form = subst (λ (k : Class). FormOf k at w b bs after) (sym e) form;
  longest = λ v c more rest behind longer. longest v c more rest behind (subst (λ (k : Class). FormOf k at v b (bs ++ c ∷ more) rest) e longer);
}

-- what ends in a byte, without it
front_of : (c : ℕ) (more : List ℕ) → (init : List ℕ) × (last : ℕ) × (c ∷ more ≡ init ++ last ∷ [])
front_of c [] = ([], c, refl)
front_of c (d ∷ more) = let r = front_of d more in (c ∷ r.0, r.1, λ i. c ∷ r.2 i)

-- a comment isn't longer than up to the first close
comment_longest : (at : ℕ) (body after : List ℕ) (v : Found) (c : ℕ) (more rest : List ℕ) → GraphicForm at v ((47 ∷ 42 ∷ (body ++ 42 ∷ 47 ∷ [])) ++ c ∷ more) rest → ⊥
comment_longest at body after Passed c more rest longer =
    let r = front_of c more in
    let same : (body ++ 42 ∷ 47 ∷ []) ++ c ∷ more ≡ longer.body ++ 42 ∷ 47 ∷ [] = let h = longer.spelled in cc in
    let left : (body ++ 42 ∷ 47 ∷ r.0) ++ r.1 ∷ [] ≡ (body ++ 42 ∷ 47 ∷ []) ++ c ∷ more = append_assoc body (42 ∷ 47 ∷ r.0) (r.1 ∷ []) ∙ ap (λ l. body ++ 42 ∷ 47 ∷ l) (sym r.2) ∙ sym (append_assoc body (42 ∷ 47 ∷ []) (c ∷ more)) in
    let right : longer.body ++ 42 ∷ 47 ∷ [] ≡ (longer.body ++ 42 ∷ []) ++ 47 ∷ [] = sym (append_assoc longer.body (42 ∷ []) (47 ∷ [])) in
    longer.first body r.0 (sym (same_from_push (body ++ 42 ∷ 47 ∷ r.0) (longer.body ++ 42 ∷ []) r.1 47 (left ∙ same ∙ right)).0)
comment_longest at body after (Item k) c more rest longer = elim longer [
  | inl n ↦ n.1.no_comment ((body ++ 42 ∷ 47 ∷ []) ++ c ∷ more, refl)
  | inr d ↦ let h = d.1.0 in cc
]
comment_longest at body after (Bad f) c more rest longer =
    let same : (body ++ 42 ∷ 47 ∷ []) ++ c ∷ more ≡ longer.1.body = let h = longer.1.spelled in cc in
    longer.1.open_to_end body (c ∷ more) (sym same ∙ append_assoc body (42 ∷ 47 ∷ []) (c ∷ more))

pub comment : (at : ℕ) (body after : List ℕ) → HasNoClose (body ++ 42 ∷ []) → Begins at Passed (47 ∷ 42 ∷ (body ++ 42 ∷ 47 ∷ [])) after ((47 ∷ 42 ∷ (body ++ 42 ∷ 47 ∷ [])) ++ after)
comment at body after none = from_graphic at Passed 47 (42 ∷ (body ++ 42 ∷ 47 ∷ [])) after refl
    (record { body = body; spelled = refl; first = none })
    (λ v c more rest behind longer. comment_longest at body after v c more rest longer)

pub open_comment : (at : ℕ) (body : List ℕ) → HasNoClose body → Begins at (Bad (faults.OpenComment at)) (47 ∷ 42 ∷ body) [] ((47 ∷ 42 ∷ body) ++ [])
open_comment at body none = from_graphic at (Bad (faults.OpenComment at)) 47 (42 ∷ body) [] refl
    (refl, record { body = body; spelled = refl; open_to_end = none; at_end = refl })
    (λ v c more rest behind longer. cc)

not_nil : (xs : List ℕ) (c : ℕ) (more : List ℕ) → xs ++ c ∷ more ≡ [] → ⊥
not_nil [] c more h = cc
not_nil (x ∷ xs) c more h = cc

-- a graphic run that begins no comment is the longest
graphic_longest : (at : ℕ) (b : ℕ) (bs after : List ℕ) → StopsRun sets.Symbols after → (BeginsComment ((b ∷ bs) ++ after) → ⊥)
    → (v : Found) (c : ℕ) (more rest : List ℕ) → after ≡ c ∷ (more ++ rest) → GraphicForm at v ((b ∷ bs) ++ c ∷ more) rest → ⊥
graphic_longest at b bs after stops none Passed c more rest behind longer =
    none ((longer.body ++ 42 ∷ 47 ∷ []) ++ rest, ap (λ l. (b ∷ bs) ++ l) behind ∙ sym (append_assoc (b ∷ bs) (c ∷ more) rest) ∙ ap (λ l. l ++ rest) longer.spelled)
graphic_longest at b bs after stops none (Item k) c more rest behind longer = elim longer [
  | inl n ↦ no_longer_run sets.Symbols (b ∷ bs) after more rest c stops behind n.1.graphic
  | inr d ↦ let h : bs ++ c ∷ more ≡ [] = let g = d.1.0 in cc in not_nil bs c more h
]
graphic_longest at b bs after stops none (Bad f) c more rest behind longer =
    none (longer.1.body ++ rest, ap (λ l. (b ∷ bs) ++ l) behind ∙ sym (append_assoc (b ∷ bs) (c ∷ more) rest) ∙ ap (λ l. l ++ rest) longer.1.spelled)

pub graphic : (at : ℕ) (k : TokenKind) (b : ℕ) (bs after : List ℕ) → class_of b ≡ classes.Graphic → GraphicForm at (Item k) (b ∷ bs) after
    → StopsRun sets.Symbols after → (BeginsComment ((b ∷ bs) ++ after) → ⊥) → Begins at (Item k) (b ∷ bs) after ((b ∷ bs) ++ after)
graphic at k b bs after e form stops none = from_graphic at (Item k) b bs after e form (graphic_longest at b bs after stops none)

-- a run of digits that isn't the whole of a float is the longest
integer_longest : (at : ℕ) (b : ℕ) (bs after : List ℕ) → AllIn sets.Digits (b ∷ bs) → StopsRun sets.Digits after
    → (decimal (b ∷ bs) ≤ 2 ^ 63 → (d : ℕ) (more : List ℕ) → after ≡ 46 ∷ d ∷ more → in_set sets.Digits d ≡ true → ⊥)
    → (v : Found) (c : ℕ) (more rest : List ℕ) → after ≡ c ∷ (more ++ rest) → DigitForm at v ((b ∷ bs) ++ c ∷ more) → ⊥
integer_longest at b bs after all stops none v c more rest behind longer = elim longer [
  | inl n ↦ no_longer_run sets.Digits (b ∷ bs) after more rest c stops behind n.0
  | inr f ↦
      let w = f.0 in
      elim (cut_cases (b ∷ bs) w.whole (c ∷ more) (46 ∷ w.digit ∷ []) w.spelled) [
        | inl same ↦
            let narrow : decimal (b ∷ bs) ≤ 2 ^ 63 = subst (λ (l : List ℕ). decimal l ≤ 2 ^ 63) (sym same.0) w.narrow in
            none narrow w.digit rest (behind ∙ ap (λ l. l ++ rest) same.1) w.is_digit
        | inr ext ↦ elim ext [
          | inl x ↦
              let first : c ≡ x.next = let h = x.behind in cc in
              let yes : in_set sets.Digits x.next ≡ true = (AllIn-right sets.Digits (b ∷ bs) (x.next ∷ x.more) (subst (AllIn sets.Digits) x.longer w.digits)).0 in
              let stop : in_set sets.Digits c ≡ false = subst (StopsRun sets.Digits) behind stops in
              let go : in_set sets.Digits c ≡ true = subst (λ (n : ℕ). in_set sets.Digits n ≡ true) (sym first) yes in cc
          | inr x ↦
              let first : x.next ≡ 46 = let h = x.behind in cc in
              let yes : in_set sets.Digits x.next ≡ true = (AllIn-right sets.Digits w.whole (x.next ∷ x.more) (subst (AllIn sets.Digits) x.longer all)).0 in
              let point : in_set sets.Digits 46 ≡ true = subst (λ (n : ℕ). in_set sets.Digits n ≡ true) first yes in cc
        ]
      ]
]

-- numbers without a mark, from what is longest among them
from_digit : (at : ℕ) (w : Found) (b : ℕ) (bs after : List ℕ) → class_of b ≡ classes.Digit
    → NumberForm at w (b ∷ bs) after
    → ((v : Found) (c : ℕ) (more rest : List ℕ) → after ≡ c ∷ (more ++ rest) → NumberForm at v ((b ∷ bs) ++ c ∷ more) rest → ⊥)
    → Begins at w (b ∷ bs) after ((b ∷ bs) ++ after)
from_digit at w b bs after e form longest = record {
  spelled = refl;
  form = subst (λ (k : Class). FormOf k at w b bs after) (sym e) form;
  longest = λ v c more rest behind longer. longest v c more rest behind (subst (λ (k : Class). FormOf k at v b (bs ++ c ∷ more) rest) e longer);
}

plain_digits : (at : ℕ) (w : Found) (b : ℕ) (bs after : List ℕ) → class_of b ≡ classes.Digit
    → NoMarked at ((b ∷ bs) ++ after)
    → DigitForm at w (b ∷ bs)
    → ((v : Found) (c : ℕ) (more rest : List ℕ) → after ≡ c ∷ (more ++ rest) → DigitForm at v ((b ∷ bs) ++ c ∷ more) → ⊥)
    → Begins at w (b ∷ bs) after ((b ∷ bs) ++ after)
plain_digits at w b bs after e unmarked form longest = from_digit at w b bs after e (inl form)
    (λ v c more rest behind longer. elim longer [
      | inl d ↦ longest v c more rest behind d
      | inr m ↦ unmarked.none v ((b ∷ bs) ++ c ∷ more) rest (ap (λ l. (b ∷ bs) ++ l) behind ∙ sym (append_assoc (b ∷ bs) (c ∷ more) rest)) m
    ])

pub integer : (at : ℕ) (b : ℕ) (bs after : List ℕ) → class_of b ≡ classes.Digit → NoMarked at ((b ∷ bs) ++ after) → AllIn sets.Digits (b ∷ bs) → StopsRun sets.Digits after
    → (decimal (b ∷ bs) ≤ 2 ^ 63 → (d : ℕ) (more : List ℕ) → after ≡ 46 ∷ d ∷ more → in_set sets.Digits d ≡ true → ⊥)
    → (w : Found) → w ≡ number at (decimal (b ∷ bs))
    → Begins at w (b ∷ bs) after ((b ∷ bs) ++ after)
integer at b bs after e unmarked all stops none w is = plain_digits at w b bs after e unmarked (inl (all, is)) (integer_longest at b bs after all stops none)

-- what a mark begins is no longer than its run
pub marked_run : (m : NumberMark) (set : Set) (at : ℕ) (w : Found) (x : ℕ) (bs after : List ℕ) → mark_of x ≡ m
    → MarkedForm m at w bs after
    → ((v : Found) (cs rest : List ℕ) → MarkedForm m at v cs rest → AllIn set cs)
    → StopsRun set after
    → Begins at w (48 ∷ x ∷ bs) after ((48 ∷ x ∷ bs) ++ after)
marked_run m set at w x bs after e form only stops =
    let form' : MarkedForm (mark_of x) at w bs after = subst (λ (k : NumberMark). MarkedForm k at w bs after) (sym e) form in
    from_digit at w 48 (x ∷ bs) after refl (inr (record { mark = x; rest = bs; spelled = refl; form = form' }))
    (λ v c more rest behind longer. elim longer [
      | inl d ↦ no_decimal x at at w v bs (bs ++ c ∷ more) after form' d
      | inr n ↦
          let mark : n.mark ≡ x = let h = n.spelled in cc in
          let tail : n.rest ≡ bs ++ c ∷ more = let h = n.spelled in cc in
          let f : MarkedForm m at v (bs ++ c ∷ more) rest = subst (λ (k : NumberMark). MarkedForm k at v (bs ++ c ∷ more) rest) (ap mark_of mark ∙ e) (subst (λ (l : List ℕ). MarkedForm (mark_of n.mark) at v l rest) tail n.form) in
          no_longer_run set bs after more rest c stops behind (only v (bs ++ c ∷ more) rest f)
    ])

pub marked_char : (at : ℕ) (w : Found) (bs after : List ℕ) → CharForm at w bs after → Begins at w (48 ∷ 39 ∷ bs) after ((48 ∷ 39 ∷ bs) ++ after)
marked_char at w bs after form =
    from_digit at w 48 (39 ∷ bs) after refl (inr (record { mark = 39; rest = bs; spelled = refl; form = form }))
    (λ v c more rest behind longer. elim longer [
      | inl d ↦ no_decimal 39 at at w v bs (bs ++ c ∷ more) after form d
      | inr n ↦
          let mark : n.mark ≡ 39 = let h = n.spelled in cc in
          let tail : n.rest ≡ bs ++ c ∷ more = let h = n.spelled in cc in
          let f : CharForm at v (bs ++ c ∷ more) rest = subst (λ (k : ℕ). MarkedForm (mark_of k) at v (bs ++ c ∷ more) rest) mark (subst (λ (l : List ℕ). MarkedForm (mark_of n.mark) at v l rest) tail n.form) in
          no_longer bs c more (one_char at w v bs (bs ++ c ∷ more) after rest form f (ap (λ l. bs ++ l) behind ∙ sym (append_assoc bs (c ∷ more) rest))).0
    ])

-- a float isn't longer than one digit after the full stop
float_longest : (at : ℕ) (b : ℕ) (bs : List ℕ) (d : ℕ) → AllIn sets.Digits (b ∷ bs)
    → (v : Found) (c : ℕ) (more : List ℕ) → DigitForm at v ((b ∷ (bs ++ 46 ∷ d ∷ [])) ++ c ∷ more) → ⊥
float_longest at b bs d all v c more longer =
    let regroup : ((b ∷ bs) ++ 46 ∷ d ∷ []) ++ c ∷ more ≡ (b ∷ bs) ++ 46 ∷ d ∷ c ∷ more = append_assoc (b ∷ bs) (46 ∷ d ∷ []) (c ∷ more) in
    elim longer [
      | inl n ↦ let point : in_set sets.Digits 46 ≡ true = (AllIn-right sets.Digits (b ∷ bs) (46 ∷ d ∷ c ∷ more) (subst (AllIn sets.Digits) regroup n.0)).0 in cc
      | inr f ↦
          let w = f.0 in
          elim (cut_cases (b ∷ bs) w.whole (46 ∷ d ∷ c ∷ more) (46 ∷ w.digit ∷ []) (sym regroup ∙ w.spelled)) [
            | inl same ↦ let h = same.1 in cc
            | inr ext ↦ elim ext [
              | inl x ↦
                  let first : x.next ≡ 46 = let h = x.behind in cc in
                  let yes : in_set sets.Digits x.next ≡ true = (AllIn-right sets.Digits (b ∷ bs) (x.next ∷ x.more) (subst (AllIn sets.Digits) x.longer w.digits)).0 in
                  let point : in_set sets.Digits 46 ≡ true = subst (λ (n : ℕ). in_set sets.Digits n ≡ true) first yes in cc
              | inr x ↦
                  let first : x.next ≡ 46 = let h = x.behind in cc in
                  let yes : in_set sets.Digits x.next ≡ true = (AllIn-right sets.Digits w.whole (x.next ∷ x.more) (subst (AllIn sets.Digits) x.longer all)).0 in
                  let point : in_set sets.Digits 46 ≡ true = subst (λ (n : ℕ). in_set sets.Digits n ≡ true) first yes in cc
            ]
          ]
    ]

pub float : (at : ℕ) (b : ℕ) (bs : List ℕ) (d : ℕ) (after : List ℕ) → class_of b ≡ classes.Digit → NoMarked at ((b ∷ (bs ++ 46 ∷ d ∷ [])) ++ after) → AllIn sets.Digits (b ∷ bs) → in_set sets.Digits d ≡ true → decimal (b ∷ bs) ≤ 2 ^ 63
    → Begins at (Bad (faults.FloatLiteral at)) (b ∷ (bs ++ 46 ∷ d ∷ [])) after ((b ∷ (bs ++ 46 ∷ d ∷ [])) ++ after)
float at b bs d after e unmarked all digit narrow = plain_digits at (Bad (faults.FloatLiteral at)) b (bs ++ 46 ∷ d ∷ []) after e unmarked
    (inr (record { whole = b ∷ bs; digit = d; spelled = refl; digits = all; is_digit = digit; narrow = narrow }, refl))
    (λ v c more rest behind longer. float_longest at b bs d all v c more longer)
