-- One clause and one predicate further on.
use Rattle.std.proofs.Common.{◌≡◌, ℕ, zero, suc, ◌+◌, List, [], ◌∷◌, ◌++◌, drop, Option, Some, sym, ◌∙◌, ap, subst, arith, append_assoc}
use Rattle.std.specs.Prelude.{slice_get, option_to_list}
use Rattle.apd_clauses.specs.Clauses.{clause_at}
use Rattle.apd_clauses.specs.declared.clause.Clause.{Clause}
use Rattle.apd_term.specs.Term.{predicate_of}
use Rattle.apd_term.specs.declared.term.Pred.{Pred}
use Rattle.apd_demo.specs.Replies.{heads_of}

pub drop_there : {X : Type 0} (xs : List X) (i : ℕ) (x : X) → slice_get xs i ≡ Some x → drop i xs ≡ x ∷ drop (suc i) xs
drop_there [] i x e = cc
drop_there (y ∷ xs) zero x e = let same : y ≡ x = cc in ap (λ z. z ∷ xs) same
drop_there (y ∷ xs) (suc i) x e = drop_there xs i x e

-- the heads of the clauses that are left
pub heads_more : (cs : List Clause) (i : ℕ) (c : Clause) (ps all : List Pred) (o : Option Pred) → clause_at cs (i + 1) ≡ Some c → predicate_of c.tuple.head ≡ o → ps ++ heads_of (drop i cs) ≡ all → (ps ++ option_to_list o) ++ heads_of (drop (i + 1) cs) ≡ all
heads_more cs i c ps all o e is h =
    let one : i + 1 ≡ suc i = omega arith in
    let at : slice_get cs i ≡ Some c = subst (λ k. clause_at cs k ≡ Some c) one e in
    let rest : drop i cs ≡ c ∷ drop (i + 1) cs = drop_there cs i c at ∙ ap (λ k. c ∷ drop k cs) (sym one) in
    append_assoc ps (option_to_list o) (heads_of (drop (i + 1) cs)) ∙ ap (λ p. ps ++ (option_to_list p ++ heads_of (drop (i + 1) cs))) (sym is) ∙ ap (λ ds. ps ++ heads_of ds) (sym rest) ∙ h
