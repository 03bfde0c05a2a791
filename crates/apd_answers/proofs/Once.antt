-- A store keeps each pair and each predicate once; so statements that tell its pairs in their order, up to canonical form, make such a store again.
use Rattle.std.proofs.Common.{◌≡◌, ◌++◌, ◌&&◌, ◌||◌, Bool, false, if◌then◌else◌, List, [], ◌∷◌, refl, sym, ◌∙◌, ap, subst}
use Rattle.apd_answers.specs.declared.question.Question.{Question}
use Rattle.apd_answers.specs.declared.question.Reply.{Reply}
use Rattle.apd_answers.specs.declared.store.Pair.{Pair}
use Rattle.apd_answers.specs.Questions.{canonical_question}
use Rattle.apd_answers.specs.Store.{same_question, same_reply, is_kept_as, is_kept_in, with_pair_in}
use Rattle.std.specs.Prelude.{Some, Result, Ok, Err, IfOk, IsOk, OnOk, OnErr}
use Rattle.indexmap.specs.IndexSet.{insert_key}
use Rattle.std.specs.List.{list_any}
use Rattle.std.proofs.Common.{append_assoc}
use Rattle.std.proofs.lemmas.List.{append-nil}
use Rattle.apd_ports.specs.Filter.{is_predicate}
use Rattle.apd_term.specs.declared.term.Pred.{Pred}
use Rattle.apd_answers.specs.Once.{AreNew, AreNewPreds, AreListedOnce, AreOnce, with_pairs_in, AreSame}

none_behind : (ps : List Pair) → ps ++ [] ≡ ps
none_behind [] = refl
none_behind (p ∷ ps) = ap (λ xs. p ∷ xs) (none_behind ps)

one_behind : (ps qs : List Pair) (p : Pair) → (ps ++ p ∷ []) ++ qs ≡ ps ++ p ∷ qs
one_behind [] qs p = refl
one_behind (x ∷ ps) qs p = ap (λ xs. x ∷ xs) (one_behind ps qs p)

put-new : (before : List Pair) (p : Pair) → is_kept_in before p.question p.reply ≡ false → with_pair_in before p.question p.reply ≡ before ++ p ∷ []
put-new before p e = ap (λ (b : Bool). if b then before else before ++ p ∷ []) e

-- pairs that are new are all kept, in their order
pub all-put : (before ps : List Pair) → AreNew before ps → with_pairs_in before ps ≡ before ++ ps
all-put before [] n = sym (none_behind before)
all-put before (p ∷ ps) n = ap (λ xs. with_pairs_in xs ps) (put-new before p n.0) ∙ all-put (before ++ p ∷ []) ps n.1 ∙ one_behind before ps p

-- what is kept, by pairs that are the same
kept-same : (ps qs : List Pair) (form : Question) (r : Reply) → AreSame ps qs → is_kept_as ps form r ≡ is_kept_as qs form r
kept-same [] [] form r s = refl
kept-same [] (q ∷ qs) form r s = absurd s
kept-same (p ∷ ps) [] form r s = absurd s
kept-same (p ∷ ps) (q ∷ qs) form r s =
    ap (λ (f : Question). (same_question f form && same_reply p.reply r) || is_kept_as ps form r) s.0
    ∙ ap (λ (y : Reply). (same_question (canonical_question q.question) form && same_reply y r) || is_kept_as ps form r) s.1
    ∙ ap (λ (b : Bool). (same_question (canonical_question q.question) form && same_reply q.reply r) || b) (kept-same ps qs form r s.2)

same-more : (ps qs : List Pair) (p q : Pair) → AreSame ps qs → canonical_question p.question ≡ canonical_question q.question → p.reply ≡ q.reply → AreSame (ps ++ p ∷ []) (qs ++ q ∷ [])
same-more [] [] p q s e f = (e, f, tt)
same-more [] (y ∷ qs) p q s e f = absurd s
same-more (x ∷ ps) [] p q s e f = absurd s
same-more (x ∷ ps) (y ∷ qs) p q s e f = (s.0, s.1, same-more ps qs p q s.2 e f)

new-same : (before again ps qs : List Pair) → AreSame before again → AreSame ps qs → AreNew before ps → AreNew again qs
new-same before again [] [] s t n = tt
new-same before again [] (q ∷ qs) s t n = absurd t
new-same before again (p ∷ ps) [] s t n = absurd t
new-same before again (p ∷ ps) (q ∷ qs) s t n = (
  sym (kept-same before again (canonical_question q.question) q.reply s)
      ∙ ap (λ (f : Question). is_kept_as before f q.reply) (sym t.0)
      ∙ ap (λ (y : Reply). is_kept_as before (canonical_question p.question) y) (sym t.1)
      ∙ n.0,
  new-same (before ++ p ∷ []) (again ++ q ∷ []) ps qs (same-more before again p q s t.0 t.1) t.2 n.1,
)

-- pairs that are the same as those of a store, put to an empty one in their order, are all kept
pub put-again : (ps qs : List Pair) → AreOnce ps → AreSame ps qs → with_pairs_in [] qs ≡ qs
put-again ps qs n s = all-put [] qs (new-same [] [] ps qs tt s n)

new-more : (before ps : List Pair) (p : Pair) → AreNew before ps → is_kept_in (before ++ ps) p.question p.reply ≡ false → AreNew before (ps ++ p ∷ [])
new-more before [] p n e = (subst (λ xs. is_kept_in xs p.question p.reply ≡ false) (none_behind before) e, tt)
new-more before (x ∷ ps) p n e = (n.0, new-more (before ++ x ∷ []) ps p n.1 (subst (λ xs. is_kept_in xs p.question p.reply ≡ false) (sym (one_behind before ps x)) e))

-- a pair behind others, which isn't kept by them
pub once-behind : (ps new : List Pair) (p : Pair) (form : Question) (reply : Reply) (b : Bool) → AreOnce ps → new ≡ ps ++ p ∷ [] → canonical_question p.question ≡ form → p.reply ≡ reply
    → b ≡ is_kept_as ps form reply → b ≡ false → AreOnce new
once-behind ps new p form reply b o is f r kept unkept =
    let e : is_kept_in ps p.question p.reply ≡ false = ap (λ (z : Question). is_kept_as ps z p.reply) f ∙ ap (λ (z : Reply). is_kept_as ps form z) r ∙ sym kept ∙ unkept in
    subst AreOnce (sym is) (new-more [] ps p o e)

-- a predicate behind others, which isn't listed by them
preds-more : (before ps : List Pred) (p : Pred) → AreNewPreds before ps → list_any (is_predicate (Some p)) (before ++ ps) ≡ false → AreNewPreds before (ps ++ p ∷ [])
preds-more before [] p n e = (subst (λ xs. list_any (is_predicate (Some p)) xs ≡ false) (append-nil before) e, tt)
preds-more before (x ∷ ps) p n e = (n.0, preds-more (before ++ x ∷ []) ps p n.1 (subst (λ xs. list_any (is_predicate (Some p)) xs ≡ false) (sym (append_assoc before (x ∷ []) ps)) e))

-- a predicate that is put behind others, which don't list it, where there is memory
pub listed-put : {T E : Type 0} (ps new : List Pred) (p : Pred) (b : Bool) (r : Result T E) → AreListedOnce ps → OnOk r (new ≡ ps ++ p ∷ []) → OnErr r (new ≡ ps) → b ≡ list_any (is_predicate (Some p)) ps → b ≡ false → AreListedOnce new
listed-put ps new p b (Ok x) o is same listed unlisted = subst AreListedOnce (sym is) (preds-more [] ps p o (sym listed ∙ unlisted))
listed-put ps new p b (Err e) o is same listed unlisted = subst AreListedOnce (sym same) o

-- a set that has the same predicates, after one more was put to both
pub listed-too : {T E : Type 0} (test : Pred → Pred → Bool) (olds kept news preds preds_new : List Pred) (p : Pred) (r : Result T E) → olds ≡ preds → kept ≡ olds → preds_new ≡ preds ++ p ∷ [] → list_any (test p) preds ≡ false
    → IfOk r (λ x. news ≡ insert_key test kept p) → IsOk r → news ≡ preds_new
listed-too test olds kept news preds preds_new p (Ok x) same still is unlisted put there =
    let e : kept ≡ preds = still ∙ same in
    put ∙ ap (λ (ks : List Pred). insert_key test ks p) e ∙ ap (λ (b : Bool). if b then preds else preds ++ p ∷ []) unlisted ∙ sym is
listed-too test olds kept news preds preds_new p (Err e) same still is unlisted put there = absurd (cc)
