-- A term's text, symbol by symbol.
use Rattle.std.proofs.Common.{◌≡◌, ℕ, ◌≤◌, ◌<◌, List, [], ◌∷◌, ◌++◌, length, take, drop, refl, ap, sym, ◌∙◌, arith, suc, zero, append_assoc, length-take, length-drop}
use Rattle.std.specs.Prelude.{Option, Some, None}
use Rattle.std.proofs.lemmas.List.{append-nil, take-append-drop}
use Rattle.apd_ops.specs.Table.{Table}
use Rattle.apd_term.specs.Term.{Term, variable, integer, compound, none, terms_of, spell, read_all, IsTerms, IsWhole, term_of, arity_of}
use Rattle.apd_term.specs.Names.{text_of_name}
use Rattle.apd_term.proofs.Spelling.{under_name}
use Rattle.apd_term.specs.Spelling.{read_all-spell}
use Rattle.apd_term.specs.declared.term.NameId.{NameId}
use Rattle.apd_term.specs.declared.term.Sym.{Sym}
use Rattle.apd_term.specs.declared.term.Sym.TheVariants.{Var, Int, Fun}
use Rattle.apd_write.specs.Writing.{Part, parts, rest_text, written}
use Rattle.apd_write.specs.Pending.{AddsClosing, Closes, Expects, Opens, Stands, alone, compound_in, leaf_in, resume, resumed_in, text_in, with_arguments}
use Rattle.apd_write.specs.declared.pending.TermPlace.{TermPlace}
use Rattle.apd_write.specs.declared.pending.TermPlace.TheVariants as place
use Rattle.apd_write.specs.declared.pending.PendingFrame.{PendingFrame}

module _ (ops : Table) (names : List (List ℕ)) where
  abbrev pub part_of : Term → Part
  part_of t = record { term = t; text = written ops names t; rest = rest_text ops names t }

  abbrev pub parts_of : List Term → List Part
  parts_of ts = parts ops names (terms_of ts)

length-parts_of : (ops : Table) (names : List (List ℕ)) (ts : List Term) → length (parts_of ops names ts) ≡ length ts
length-parts_of ops names [] = refl
length-parts_of ops names (t ∷ ts) = let e = length-parts_of ops names ts in omega (arith, e)

parts_of-append : (ops : Table) (names : List (List ℕ)) (ts us : List Term) → parts_of ops names ts ++ parts_of ops names us ≡ parts_of ops names (ts ++ us)
parts_of-append ops names [] us = refl
parts_of-append ops names (t ∷ ts) us = ap (λ (ps : List Part). part_of ops names t ∷ ps) (parts_of-append ops names ts us)

-- what a term without arguments has for its symbol
abbrev pub leaf_of : Sym → Term
leaf_of (Var v) = variable v
leaf_of (Int i) = integer i
leaf_of (Fun f n) = compound f none

leaf_text_in : (ops : Table) (names : List (List ℕ)) (here : TermPlace) (x : Sym) → text_in ops names (alone here) (part_of ops names (leaf_of x)) ≡ leaf_in ops names here x
leaf_text_in ops names (place.Argument n) (Var v) = refl
leaf_text_in ops names (place.Argument n) (Int i) = refl
leaf_text_in ops names (place.Argument n) (Fun f m) = refl
leaf_text_in ops names (place.Whole max) (Var v) = refl
leaf_text_in ops names (place.Whole max) (Int i) = refl
leaf_text_in ops names (place.Whole max) (Fun f n) = refl
leaf_text_in ops names (place.Left max) (Var v) = refl
leaf_text_in ops names (place.Left max) (Int i) = refl
leaf_text_in ops names (place.Left max) (Fun f n) = refl
leaf_text_in ops names (place.Right max) (Var v) = refl
leaf_text_in ops names (place.Right max) (Int i) = refl
leaf_text_in ops names (place.Right max) (Fun f n) = refl
leaf_text_in ops names place.Rest (Var v) = refl
leaf_text_in ops names place.Rest (Int i) = refl
leaf_text_in ops names place.Rest (Fun f n) = refl

leaf_read : (x : Sym) (s : List Sym) → arity_of x ≡ 0 → read_all (x ∷ s) ≡ leaf_of x ∷ read_all s
leaf_read (Var v) s leaf = refl
leaf_read (Int i) s leaf = refl
leaf_read (Fun f zero) s leaf = refl
leaf_read (Fun f (suc n)) s leaf = absurd (omega (arith, leaf))

-- a leaf was written and closed
leaf_closed : (ops : Table) (names : List (List ℕ)) (whole : List ℕ) (frames frames_now : List PendingFrame) (out marks : List ℕ) (here : TermPlace) (t : Term) (us : List Term) (next : Option TermPlace) →
    Expects ops names whole frames out here (t ∷ us) → Closes ops names (with_arguments here frames) frames_now marks next →
    Stands ops names whole frames_now ((out ++ text_in ops names (alone here) (part_of ops names t)) ++ marks) next us
leaf_closed ops names whole frames frames_now out marks here t [] (Some next) expects closed = absurd (let c = expects.count in let n = closed.count in omega (arith, c, n))
leaf_closed ops names whole frames frames_now out marks here t (u ∷ us) (Some next) expects closed = record {
  count = let c = expects.count in let n = closed.count in omega (arith, c, n);
  text =
      let text : List ℕ = text_in ops names (alone here) (part_of ops names t) in
      expects.text
      ∙ ap (λ (x : List ℕ). out ++ (text ++ x)) (closed.text (λ ps. []) (part_of ops names u) (parts_of ops names us))
      ∙ sym (append_assoc out text _)
      ∙ sym (append_assoc (out ++ text) marks _);
}
leaf_closed ops names whole frames frames_now out marks here t us None expects closed =
    let text : List ℕ = text_in ops names (alone here) (part_of ops names t) in
    expects.text
    ∙ ap (λ (x : List ℕ). out ++ (text ++ x)) (closed.text (λ ps. []) (parts_of ops names us) ∙ append-nil marks)
    ∙ sym (append_assoc out text marks)

pub leaf_next : (ops : Table) (names : List (List ℕ)) (whole : List ℕ) (frames frames_now : List PendingFrame) (out written_out out_now : List ℕ) (here : TermPlace) (x : Sym) (s : List Sym) (next : Option TermPlace) →
    arity_of x ≡ 0 → Expects ops names whole frames out here (read_all (x ∷ s)) → written_out ≡ out ++ leaf_in ops names here x →
    AddsClosing ops names (with_arguments here frames) frames_now written_out out_now next → Stands ops names whole frames_now out_now next (read_all s)
leaf_next ops names whole frames frames_now out written_out out_now here x s next leaf expects wrote closing =
    let read : Expects ops names whole frames out here (leaf_of x ∷ read_all s) = rw (leaf_read x s leaf) at expects in
    let e : out_now ≡ (out ++ text_in ops names (alone here) (part_of ops names (leaf_of x))) ++ closing.0 =
    closing.1 ∙ ap (λ (o : List ℕ). o ++ closing.0) (wrote ∙ ap (λ (o : List ℕ). out ++ o) (sym (leaf_text_in ops names here x))) in
    rw e (leaf_closed ops names whole frames frames_now out closing.0 here (leaf_of x) (read_all s) next read closing.2)

compound_text_in : (ops : Table) (names : List (List ℕ)) (here : TermPlace) (f : NameId) (t : Term) (ts : List Term) →
    text_in ops names (alone here) (part_of ops names (compound f (terms_of (t ∷ ts)))) ≡ compound_in ops here f (text_of_name names f) (parts_of ops names (t ∷ ts))
compound_text_in ops names (place.Argument n) f t ts = refl
compound_text_in ops names (place.Whole max) f t ts = refl
compound_text_in ops names (place.Left max) f t ts = refl
compound_text_in ops names (place.Right max) f t ts = refl
compound_text_in ops names place.Rest f t ts = refl

-- a compound was opened
opened : (ops : Table) (names : List (List ℕ)) (whole : List ℕ) (frames frames_now : List PendingFrame) (out out_now : List ℕ) (here next : TermPlace) (f : NameId) (count : ℕ) (rs : List Term) →
    0 < count → count ≤ length rs → Expects ops names whole frames out here (compound f (terms_of (take count rs)) ∷ drop count rs) →
    Opens ops names f count here (with_arguments here frames) frames_now out out_now next → Expects ops names whole frames_now out_now next rs
opened ops names whole frames frames_now out out_now here next f zero rs some few expects opens = absurd (omega (arith, some))
opened ops names whole frames frames_now out out_now here next f (suc n) [] some few expects opens = absurd (omega (arith, few))
opened ops names whole frames frames_now out out_now here next f (suc n) (r ∷ rs) some few expects opens = record {
  count =
      let c = expects.count in
      let d = length-drop n rs in
      let t = opens.takes in
      omega (arith, c, d, t, few);
  text =
      let ps : List Part = parts_of ops names (r ∷ take n rs) in
      let qs : List Part = parts_of ops names (drop n rs) in
      let long : length ps ≡ suc n = (let l = length-parts_of ops names (r ∷ take n rs) in let k = length-take n rs in omega (arith, l, k, few)) in
      let all : ps ++ qs ≡ parts_of ops names (r ∷ rs) = parts_of-append ops names (r ∷ take n rs) (drop n rs) ∙ ap (λ (ts : List Term). parts_of ops names (r ∷ ts)) (take-append-drop n rs) in
      expects.text
      ∙ ap (λ (x : List ℕ). out ++ (x ++ resume ops names (with_arguments here frames) (λ ps. []) qs)) (compound_text_in ops names here f r (take n rs))
      ∙ ap (λ (x : List ℕ). out ++ x) (opens.text (λ ps. []) ps qs long)
      ∙ ap (λ (x : List Part). out ++ (opens.marks ++ resumed_in ops names next frames_now (λ ps. []) x)) all
      ∙ sym (append_assoc out opens.marks _)
      ∙ ap (λ (o : List ℕ). o ++ resumed_in ops names next frames_now (λ ps. []) (parts_of ops names (r ∷ rs))) (sym opens.adds);
}

pub compound_next : (ops : Table) (names : List (List ℕ)) (whole : List ℕ) (frames frames_now : List PendingFrame) (out out_now : List ℕ) (here next : TermPlace) (f : NameId) (count : ℕ) (s : List Sym) →
    0 < count → IsTerms (Fun f count ∷ s) → Expects ops names whole frames out here (read_all (Fun f count ∷ s)) →
    Opens ops names f count here (with_arguments here frames) frames_now out out_now next → Expects ops names whole frames_now out_now next (read_all s)
compound_next ops names whole frames frames_now out out_now here next f count s some terms expects opens =
    opened ops names whole frames frames_now out out_now here next f count (read_all s) some
    (let u = (under_name f count s terms).0 in let l = length-take count (read_all s) in omega (arith, u, l)) expects opens

-- where the symbols are to be written from some place on
pub record Standing (ops : Table) (names : List (List ℕ)) (whole : List ℕ) (frames : List PendingFrame) (out : List ℕ) (here : TermPlace) (s : List Sym) : Type 0 where
  pub terms : IsTerms s
  pub expects : Expects ops names whole frames out here (read_all s)

whole_read : (s : List Sym) → IsWhole s → read_all s ≡ term_of s ∷ []
whole_read s is = ap read_all (sym is ∙ sym (append-nil (spell (term_of s)))) ∙ read_all-spell (term_of s) []

pub Standing-start : (ops : Table) (names : List (List ℕ)) (max : ℕ) (out : List ℕ) (s : List Sym) → IsWhole s → Standing ops names (out ++ written ops names (term_of s) max) [] out (place.Whole max) s
Standing-start ops names max out s is = record {
  terms = rw (whole_read s is) (append-nil (spell (term_of s)) ∙ is);
  expects = rw (whole_read s is) (record { count = refl; text = ap (λ (x : List ℕ). out ++ x) (sym (append-nil (written ops names (term_of s) max))) });
}
