-- A text has at most one division.
use Rattle.std.proofs.Common.{◌≡◌, ℕ, ◌+◌, List, [], ◌∷◌, ◌++◌, length, refl, sym, ◌∙◌, ap, subst, ◌⊎◌, inl, inr, true, false}
use Rattle.apd_token.specs.Bytes.{class_of, in_set}
use Rattle.apd_token.specs.Quotes.{AllIn}
use Rattle.apd_token.specs.Grammar.{EndsLine, IsLead, IsComment, IsOpenComment, IsEnd, BeginsComment, GraphicForm, IsFloat, DigitForm, FormOf, HasForm, Begins, Piece, IsSound, Divides, place_after, tokens_of, HasTokens, HasFault}
use Rattle.apd_token.specs.declared.bytes.Class.{Class}
use Rattle.apd_token.specs.declared.bytes.Class.TheVariants as classes
use Rattle.apd_token.specs.declared.bytes.Set.TheVariants as sets
use Rattle.apd_token.specs.declared.items.Token.{Token}
use Rattle.apd_causes.specs.declared.faults.TokenFault.{TokenFault}
use Rattle.apd_token.specs.declared.found.Found.{Found}
use Rattle.apd_token.specs.declared.found.Found.TheVariants.{Passed, Item, Bad}
use Rattle.apd_token.proofs.Quoting.{one_quoted, class_quote}
use Rattle.apd_token.proofs.Marks.{one_number}
use Rattle.apd_token.specs.Scan.{StopsRun}
use Rattle.apd_token.proofs.Elements.{run_cut, AllIn-right}
use Rattle.apd_token.proofs.Cut.{cut_cases}

-- a closed comment isn't an open one
comment_is_closed : (bytes after : List ℕ) → IsComment bytes → IsOpenComment bytes after → ⊥
comment_is_closed bytes after closed open_one =
    let same : open_one.body ≡ closed.body ++ 42 ∷ 47 ∷ [] = cc in
    open_one.open_to_end closed.body [] same

begins_comment : (bytes : List ℕ) → IsComment bytes → BeginsComment bytes
begins_comment bytes c = (c.body ++ 42 ∷ 47 ∷ [], c.spelled)

begins_open : (bytes after : List ℕ) → IsOpenComment bytes after → BeginsComment bytes
begins_open bytes after c = (c.body, c.spelled)

end_no_comment : (bytes after : List ℕ) → IsEnd bytes after → BeginsComment bytes → ⊥
end_no_comment bytes after e (more, spelled) = let h = e.0 in cc

one_graphic : (at : ℕ) (w v : Found) (bytes after : List ℕ) → GraphicForm at w bytes after → GraphicForm at v bytes after → w ≡ v
one_graphic at Passed Passed bytes after p q = refl
one_graphic at Passed (Item k) bytes after p q = elim q [ inl n ↦ absurd (n.1.no_comment (begins_comment bytes p)) | inr e ↦ absurd (end_no_comment bytes after e.1 (begins_comment bytes p)) ]
one_graphic at Passed (Bad f) bytes after p q = absurd (comment_is_closed bytes after p q.1)
one_graphic at (Item k) Passed bytes after q p = elim q [ inl n ↦ absurd (n.1.no_comment (begins_comment bytes p)) | inr e ↦ absurd (end_no_comment bytes after e.1 (begins_comment bytes p)) ]
one_graphic at (Item k) (Item l) bytes after p q = elim p [
  | inl n ↦ elim q [ inl m ↦ ap Item (n.0 ∙ sym m.0) | inr e ↦ absurd (n.1.no_end e.1) ]
  | inr d ↦ elim q [ inl m ↦ absurd (m.1.no_end d.1) | inr e ↦ ap Item (d.0 ∙ sym e.0) ]
]
one_graphic at (Item k) (Bad f) bytes after q p = elim q [ inl n ↦ absurd (n.1.no_comment (begins_open bytes after p.1)) | inr e ↦ absurd (end_no_comment bytes after e.1 (begins_open bytes after p.1)) ]
one_graphic at (Bad f) Passed bytes after p q = absurd (comment_is_closed bytes after q p.1)
one_graphic at (Bad f) (Item k) bytes after p q = elim q [ inl n ↦ absurd (n.1.no_comment (begins_open bytes after p.1)) | inr e ↦ absurd (end_no_comment bytes after e.1 (begins_open bytes after p.1)) ]
one_graphic at (Bad f) (Bad g) bytes after p q = ap Bad (p.0 ∙ sym q.0)

-- digits aren't a float
no_float : (bytes : List ℕ) → AllIn sets.Digits bytes → IsFloat bytes → ⊥
no_float bytes all f =
    let point : AllIn sets.Digits (46 ∷ f.digit ∷ []) = AllIn-right sets.Digits f.whole _ (subst (AllIn sets.Digits) f.spelled all) in
    let h = point.0 in cc

one_digit : (at : ℕ) (w v : Found) (bytes : List ℕ) → DigitForm at w bytes → DigitForm at v bytes → w ≡ v
one_digit at w v bytes p q = elim p [
  | inl n ↦ elim q [ inl m ↦ n.1 ∙ sym m.1 | inr f ↦ absurd (no_float bytes n.0 f.0) ]
  | inr d ↦ elim q [ inl m ↦ absurd (no_float bytes m.0 d.0) | inr f ↦ d.1 ∙ sym f.1 ]
]

one_of : (cls : Class) (at : ℕ) (w v : Found) (b : ℕ) (bs after : List ℕ) → class_of b ≡ cls → FormOf cls at w b bs after → FormOf cls at v b bs after → w ≡ v
one_of classes.Layout at w v b bs after e p q = p.0 ∙ sym q.0
one_of classes.Percent at w v b bs after e p q = p.0 ∙ sym q.0
one_of classes.Small at w v b bs after e p q = p.0 ∙ sym q.0
one_of classes.Capital at w v b bs after e p q = p.0 ∙ sym q.0
one_of classes.Solo at w v b bs after e p q = p.0 ∙ sym q.0
one_of classes.Bracket at w v b bs after e p q = p.0 ∙ sym q.0
one_of classes.Graphic at w v b bs after e p q = one_graphic at w v (b ∷ bs) after p q
one_of classes.Digit at w v b bs after e p q = one_number at w v (b ∷ bs) after (λ x y m n. one_digit at x y (b ∷ bs) m n) p q
one_of classes.Quote at w v b bs after e p q = (one_quoted at w v b bs bs after after (class_quote b e) p q refl).2
one_of classes.Other at w v b bs after e p q = p.0 ∙ sym q.0

-- the bytes of a piece have one form
pub one_form : (at : ℕ) (w v : Found) (bytes after : List ℕ) → HasForm at w bytes after → HasForm at v bytes after → w ≡ v
one_form at w v [] after p q = absurd p
one_form at w v (b ∷ bs) after p q = one_of (class_of b) at w v b bs after refl p q

pub record Same (w v : Found) (a b r s : List ℕ) : Type 0 where
  pub form : w ≡ v
  pub bytes : a ≡ b
  pub after : r ≡ s

-- a text begins with one piece
pub one_piece : (at : ℕ) (w v : Found) (a b r s text : List ℕ) → Begins at w a r text → Begins at v b s text → Same w v a b r s
one_piece at w v a b r s text p q = elim (cut_cases a b r s (sym p.spelled ∙ q.spelled)) [
  | inl same ↦ record {
    form = one_form at w v b s (subst (λ x. HasForm at w x s) same.0 (subst (HasForm at w a) same.1 p.form)) q.form;
    bytes = same.0;
    after = same.1;
  }
  | inr rest ↦ elim rest [
    | inl ext ↦ absurd (p.longest v ext.next ext.more s ext.behind (subst (λ x. HasForm at v x s) ext.longer q.form))
    | inr ext ↦ absurd (q.longest w ext.next ext.more r ext.behind (subst (λ x. HasForm at w x r) ext.longer p.form))
  ]
]

-- a piece isn't empty
pub begins_some : (at : ℕ) (w : Found) (bytes after : List ℕ) → Begins at w bytes after [] → ⊥
begins_some at w [] after p = p.form
begins_some at w (b ∷ bs) after p = let h = p.spelled in cc

-- the text goes no further: it ends, or a fault stands there
pub record Halt (at : ℕ) (rest : List ℕ) : Type 0 where
  pub why : (rest ≡ []) ⊎ ((f : TokenFault) × (bytes after : List ℕ) × Begins at (Bad f) bytes after rest)

no_step : (at : ℕ) (rest : List ℕ) (p : Piece) (after : List ℕ) → Halt at rest → Begins at p.what p.bytes after rest → IsSound p.what → ⊥
no_step at rest p after halt b sound = elim halt.why [
  | inl empty ↦ begins_some at p.what p.bytes after (subst (Begins at p.what p.bytes after) empty b)
  | inr bad ↦ subst IsSound (one_piece at p.what (Bad bad.0) p.bytes bad.1 after bad.2 rest b bad.3).form sound
]

pub one_division : (at : ℕ) (ps qs : List Piece) (text r s : List ℕ) → Divides at ps text r → Halt (place_after at ps) r → Divides at qs text s → Halt (place_after at qs) s → (ps ≡ qs) × (r ≡ s)
one_division at [] [] text r s d h e k = (refl, sym d ∙ e)
one_division at [] (q ∷ qs) text r s d h e k = absurd (no_step at text q e.0 (subst (Halt at) (sym d) h) e.1 e.2)
one_division at (p ∷ ps) [] text r s d h e k = absurd (no_step at text p d.0 (subst (Halt at) (sym e) k) d.1 d.2)
one_division at (p ∷ ps) (q ∷ qs) text r s d h e k =
    let same = one_piece at p.what q.what p.bytes q.bytes d.0 e.0 text d.1 e.1 in
    let equal : p ≡ q = λ i. record { what = same.form i; bytes = same.bytes i } in
    let e' : Divides (at + length p.bytes) qs d.0 s = subst (λ (x : List ℕ). Divides (at + length p.bytes) qs x s) (sym same.after) (subst (λ (x : List ℕ). Divides (at + length x) qs e.0 s) (sym same.bytes) e.3) in
    let k' : Halt (place_after (at + length p.bytes) qs) s = subst (λ (x : List ℕ). Halt (place_after (at + length x) qs) s) (sym same.bytes) k in
    let rest = one_division (at + length p.bytes) ps qs d.0 r s d.3 h e' k' in
    ((λ i. equal i ∷ rest.0 i), rest.1)

line_stops : (rest : List ℕ) → EndsLine rest → StopsRun sets.Line rest
line_stops [] e = tt
line_stops (b ∷ rest) e = subst (λ (n : ℕ). in_set sets.Line n ≡ false) (sym e) refl

-- a text has one lead
pub one_lead : (a b r s : List ℕ) → IsLead a r → IsLead b s → a ++ r ≡ b ++ s → (a ≡ b) × (r ≡ s)
one_lead a b r s x y e = elim x.which [
  | inl none ↦ elim y.which [
    | inl no_more ↦ (none.0 ∙ sym no_more.0, ap (λ l. l ++ r) (sym none.0) ∙ e ∙ ap (λ l. l ++ s) no_more.0)
    | inr line ↦ absurd (none.1 (line.0 ++ s, ap (λ l. l ++ r) (sym none.0) ∙ e ∙ ap (λ l. l ++ s) line.1))
  ]
  | inr line ↦ elim y.which [
    | inl none ↦ absurd (none.1 (line.0 ++ r, ap (λ l. l ++ s) (sym none.0) ∙ sym e ∙ ap (λ l. l ++ r) line.1))
    | inr other ↦
        let whole : 35 ∷ 33 ∷ (line.0 ++ r) ≡ 35 ∷ 33 ∷ (other.0 ++ s) = ap (λ l. l ++ r) (sym line.1) ∙ e ∙ ap (λ l. l ++ s) other.1 in
        let tails : line.0 ++ r ≡ other.0 ++ s = cc in
        let one = run_cut sets.Line line.0 other.0 r s line.2 other.2 (line_stops r line.3) (line_stops s other.3) tails in
        (line.1 ∙ ap (λ l. 35 ∷ 33 ∷ l) one.front ∙ sym other.1, one.back)
  ]
]

-- two readings up to where they halt are one
one_reading : (text a b r s : List ℕ) (ps qs : List Piece) (u v : List ℕ) → text ≡ a ++ r → text ≡ b ++ s → IsLead a r → IsLead b s
    → Divides (length a) ps r u → Halt (place_after (length a) ps) u → Divides (length b) qs s v → Halt (place_after (length b) qs) v → (a ≡ b) × (ps ≡ qs) × (u ≡ v)
one_reading text a b r s ps qs u v e f x y d h g k =
    let lead = one_lead a b r s x y (sym e ∙ f) in
    let g' : Divides (length a) qs r v = subst (λ (l : List ℕ). Divides (length l) qs r v) (sym lead.0) (subst (λ (l : List ℕ). Divides (length b) qs l v) (sym lead.1) g) in
    let k' : Halt (place_after (length a) qs) v = subst (λ (l : List ℕ). Halt (place_after (length l) qs) v) (sym lead.0) k in
    let same = one_division (length a) ps qs r u v d h g' k' in
    (lead.0, same.0, same.1)

pub one_tokens : (text : List ℕ) (ts us : List Token) → HasTokens text ts → HasTokens text us → ts ≡ us
one_tokens text ts us p q =
    let same = one_reading text p.front q.front p.rest q.rest p.pieces q.pieces [] [] p.spelled q.spelled p.lead q.lead p.divides (record { why = inl refl }) q.divides (record { why = inl refl }) in
    p.tokens ∙ (λ i. tokens_of (length (same.0 i)) true (same.1 i)) ∙ sym q.tokens

halts : (text : List ℕ) (f : TokenFault) (q : HasFault text f) → Halt (place_after (length q.front) q.pieces) q.left
halts text f q = record { why = inr (f, q.bytes, q.after, q.begins) }

pub no_tokens_at_fault : (text : List ℕ) (ts : List Token) (f : TokenFault) → HasTokens text ts → HasFault text f → ⊥
no_tokens_at_fault text ts f p q =
    let same = one_reading text p.front q.front p.rest q.rest p.pieces q.pieces [] q.left p.spelled q.spelled p.lead q.lead p.divides (record { why = inl refl }) q.divides (halts text f q) in
    let place = place_after (length q.front) q.pieces in
    begins_some place (Bad f) q.bytes q.after (subst (Begins place (Bad f) q.bytes q.after) (sym same.2) q.begins)

pub one_fault : (text : List ℕ) (f g : TokenFault) → HasFault text f → HasFault text g → f ≡ g
one_fault text f g p q =
    let same = one_reading text p.front q.front p.rest q.rest p.pieces q.pieces p.left q.left p.spelled q.spelled p.lead q.lead p.divides (halts text f p) q.divides (halts text g q) in
    let place = place_after (length p.front) p.pieces in
    let places : place ≡ place_after (length q.front) q.pieces = λ i. place_after (length (same.0 i)) (same.1 i) in
    let q' : Begins place (Bad g) q.bytes q.after p.left = subst (λ (n : ℕ). Begins n (Bad g) q.bytes q.after p.left) (sym places) (subst (Begins (place_after (length q.front) q.pieces) (Bad g) q.bytes q.after) (sym same.2) q.begins) in
    let e : Bad f ≡ Bad g = (one_piece place (Bad f) (Bad g) p.bytes q.bytes p.after q.after p.left p.begins q').form in cc
