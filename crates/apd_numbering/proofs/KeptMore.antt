-- A log's names that are kept in one list are kept in any list that has all names of that one.
use Rattle.std.proofs.Common.{◌≡◌, ℕ, zero, suc, ◌<◌, List, [], ◌∷◌, ◌++◌, length, take, refl, sym, ◌∙◌, ap, subst, arith, Option, None, Some, length-append}
use Rattle.std.specs.Prelude.{IfSome, codes, slice_index_or}
use Rattle.std.specs.List.{AllByRecursion}
use Rattle.apd_causes.specs.declared.reading.Read.{Read}
use Rattle.apd_claims.specs.Forms.{form_in}
use Rattle.apd_claims.specs.Reading.{as_clause}
use Rattle.apd_claims.specs.declared.form.LineForm.{LineForm}
use Rattle.apd_claims.specs.declared.form.LineForm.TheVariants.{Query, End, Symptom, Framed, Call, Candidates, Candidate, Descent, Other, Unread}
use Rattle.apd_ops.specs.Table.{IsTable, Table}
use Rattle.apd_parts.specs.Parts.{Led}
use Rattle.apd_read.specs.Reader.{Reader}
use Rattle.apd_term.specs.Growth.{Grown}
use Rattle.apd_term.specs.Names.{HasDistinctTexts, number_of, with_name}
use Rattle.apd_term.specs.Named.{AreNamed, IsNamed}
use Rattle.apd_term.specs.Term.{Term, Terms}
use Rattle.apd_term.proofs.Naming.{Grown-with_name, HasDistinctTexts-with_name, number_of-append, number_of-with_name, number_of_with_name_within, text_of_number}
use Rattle.apd_lines.proofs.Growing.{Grown-self}
use Rattle.apd_numbering.specs.Kept.{CallIsKept, FormIsKept, LineIsKept, TextIsKept, candidate_in}
use Rattle.apd_numbering.specs.Lists.{BeginAlike, HasAll, HasFewOperators}
use Rattle.apd_numbering.proofs.TextsRead.{TermsTwins, TextsTwins, both_reads, both_terms, neither_reads, no_term, reading-twins, term-twins}
use Rattle.apd_numbering.proofs.Twins.{AllTwins, AreOfOneText, AreTwins, compound_twin, integer_twin, more_twin, none_twin, variable_twin}

module _ (names others : List (List ℕ)) (has : HasAll names others) where
  mutual
    pub twins-kept : {t u : Term} → AreTwins (AreOfOneText names others) t u → IsNamed (length names) t → IsNamed (length others) u
    twins-kept (variable_twin v) i = tt
    twins-kept (integer_twin z) i = tt
    twins-kept (compound_twin f g h hs) i = (subst (λ k. k < length others) (sym h.2) (has h.0 (subst (λ k. k < length names) h.1 i.0)), all_twins-kept hs i.1)

    all_twins-kept : {ts us : Terms} → AllTwins (AreOfOneText names others) ts us → AreNamed (length names) ts → AreNamed (length others) us
    all_twins-kept none_twin i = tt
    all_twins-kept (more_twin h hs) i = (twins-kept h i.0, all_twins-kept hs i.1)

-- the term that is the other's twin
pub twin-there : (one : ℕ → ℕ → Type 0) {o u : Option Term} → TermsTwins one o u → (q : Term) → u ≡ Some q → (t : Term) × (o ≡ Some t) × AreTwins one t q
twin-there one no_term q e = absurd cc
twin-there one (both_terms t u h) q e = let same : u ≡ q = cc in (t, refl, subst (AreTwins one t) same h)

module _ (n : ℕ) (names others : List (List ℕ)) (a : BeginAlike n names others) (has : HasAll names others) (ops : Table) (few : HasFewOperators n ops) (table : IsTable ops) (r : Reader names) (s : Reader others) where
  reads-kept : {o u : Option Read} → TextsTwins (AreOfOneText names others) o u → IfSome o (λ p. IsNamed (length names) p.term) → IfSome u (λ p. IsNamed (length others) p.term)
  reads-kept neither_reads i = tt
  reads-kept (both_reads p q h) i = twins-kept names others has h.term i

  pub text-kept : (text : List ℕ) → TextIsKept r ops text → TextIsKept s ops text
  text-kept text i = reads-kept (reading-twins n names others a ops few table r s text) i

  pub call-kept : (front : List ℕ) (l : Led) → CallIsKept r ops front l → CallIsKept s ops front l
  call-kept front l i q p e f =
      let x = twin-there (AreOfOneText names others) (term-twins n names others a ops few table r s front) q e in
      let y = twin-there (AreOfOneText names others) (term-twins n names others a ops few table r s l.rest) p f in
      let k = i x.0 y.0 x.1 y.1 in
      (twins-kept names others has x.2 k.0, twins-kept names others has y.2 k.1)

  form-kept : (form : LineForm) → FormIsKept r ops form → FormIsKept s ops form
  form-kept (Query goals) i = text-kept (codes "?- " ++ as_clause goals) i
  form-kept (End ran) i = tt
  form-kept (Symptom is_true text) i = text-kept (as_clause text) i
  form-kept (Framed frame text) i = text-kept (as_clause text) i
  form-kept (Call c text) i = λ place l e. call-kept (take place text) l (i place l e)
  form-kept Candidates i = tt
  form-kept Candidate i = tt
  form-kept (Descent calls) i = tt
  form-kept Other i = tt
  form-kept Unread i = tt

  candidate-kept : (o : Option Led) → IfSome o (λ l. TextIsKept r ops (as_clause l.rest)) → IfSome o (λ l. TextIsKept s ops (as_clause l.rest))
  candidate-kept None i = tt
  candidate-kept (Some l) i = text-kept (as_clause l.rest) i

  pub lines-kept : (lines : List (List ℕ)) → AllByRecursion (LineIsKept r ops) lines → AllByRecursion (LineIsKept s ops) lines
  lines-kept [] i = tt
  lines-kept (line ∷ lines) i = (record { form = form-kept (form_in line) i.0.form; candidate = candidate-kept (candidate_in line) i.0.candidate }, lines-kept lines i.1)

-- Names with those of another list.

abbrev pub with_all : List (List ℕ) → List (List ℕ) → List (List ℕ)
with_all others [] = others
with_all others (v ∷ vs) = with_all (with_name others v) vs

pub grown-all : (first others vs : List (List ℕ)) → Grown first others → Grown first (with_all others vs)
grown-all first others [] g = g
grown-all first others (v ∷ vs) g = grown-all first (with_name others v) vs (Grown-with_name first others v g)

distinct-all : (others vs : List (List ℕ)) → HasDistinctTexts others → HasDistinctTexts (with_all others vs)
distinct-all others [] h = h
distinct-all others (v ∷ vs) h = distinct-all (with_name others v) vs (HasDistinctTexts-with_name others v h)

within-grown : (old new : List (List ℕ)) (v : List ℕ) → Grown old new → number_of old v < length old → number_of new v < length new
within-grown old new v g l =
    let same : number_of new v ≡ number_of old v = ap (λ ns. number_of ns v) g.1 ∙ number_of-append old g.0 v l in
    let grown = ap (length {A = List ℕ}) g.1 in
    omega (arith, l, same, grown, length-append old g.0)

each-within : (others vs : List (List ℕ)) → AllByRecursion (λ v. number_of (with_all others vs) v < length (with_all others vs)) vs
each-within others [] = tt
each-within others (v ∷ vs) = (
  within-grown (with_name others v) (with_all (with_name others v) vs) v (grown-all (with_name others v) (with_name others v) vs (Grown-self (with_name others v)))
      (subst (λ k. k < length (with_name others v)) (sym (number_of-with_name others v)) (number_of_with_name_within others v)),
  each-within (with_name others v) vs,
)

within-at : (all vs : List (List ℕ)) (i : ℕ) → AllByRecursion (λ v. number_of all v < length all) vs → i < length vs → number_of all (slice_index_or vs i []) < length all
within-at all [] i h l = absurd (omega arith)
within-at all (v ∷ vs) zero h l = h.0
within-at all (v ∷ vs) (suc i) h l = within-at all vs i h.1 (omega arith)

pub has-all : (names others : List (List ℕ)) → HasAll names (with_all others names)
has-all names others v l =
    subst (λ u. number_of (with_all others names) u < length (with_all others names)) (text_of_number names v l) (within-at (with_all others names) names (number_of names v) (each-within others names) l)

-- the lists begin alike when names are put at the end
pub begin-all : (n : ℕ) (names others : List (List ℕ)) → BeginAlike n names others → BeginAlike n names (with_all others names)
begin-all n names others a = record {
  first = a.first;
  count = a.count;
  standard = a.standard;
  names_grown = a.names_grown;
  others_grown = grown-all a.first others names a.others_grown;
  names_distinct = a.names_distinct;
  others_distinct = distinct-all others names a.others_distinct;
}

pub later-grown : (names others : List (List ℕ)) → Grown others (with_all others names)
later-grown names others = grown-all others others names (Grown-self others)
