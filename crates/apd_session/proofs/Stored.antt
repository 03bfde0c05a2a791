-- What is known has one text under all names that come later.
use Rattle.std.proofs.Common.{◌≡◌, ℕ, List, [], ◌∷◌, length, ap, sym, ◌∙◌, subst}
use Rattle.std.specs.Prelude.{Result, Ok, Err}
use Rattle.apd_answers.specs.Store.{Store}
use Rattle.apd_debug.specs.NamedStates.{AreReplies}
use Rattle.apd_answers.specs.declared.store.Pair.{Pair}
use Rattle.apd_kept.specs.Kept.{known_text}
use Rattle.apd_kept.specs.Law.{CanReadBack, HasShallowStatements}
use Rattle.apd_kept.proofs.MoreNames.{PairsAreNamed, known_text-more}
use Rattle.apd_known.specs.Pairs.{AllMayTrust, AllStatable}
use Rattle.apd_ops.specs.Table.{Table}
use Rattle.apd_session.specs.Steps.{store_said}
use Rattle.apd_talk.specs.Speech.{Lasting, Says, Speech, Spoken, begun, one, plain}
use Rattle.apd_talk.specs.Utterance.{Utterance, Utters, UttersFront}
use Rattle.apd_talk.specs.declared.talk.Trouble.{Trouble}
use Rattle.apd_term.specs.declared.term.Pred.{Pred}
use Rattle.apd_text.specs.FilterTerms.{PredsAreNamed}
use Rattle.apd_text.specs.Named.{HasStandardNames}
use Rattle.apd_text.specs.declared.entry.Entry.{Entry}
use Rattle.apd_text.specs.declared.entry.Entry.TheVariants.{Known}

-- what is said is the same under all names that come later
says_later : {T : Type 0} (f g : Speech) (p q : Spoken) (r : Result T Trouble) → Lasting p.log.names (λ names. f p.log.ops names ≡ g p.log.ops names) → Says f p q r → Says g p q r
says_later f g p q (Ok t) same says = record {
  all = λ names grew. subst (λ (us : List (Utterance Entry)). Utters p.log.entries.list q.log.entries.list p.held q.held us) (same names grew) (says.all names grew);
  front = tt;
  names = says.names;
  ops = says.ops;
  over = says.over;
  cause = says.cause;
}
says_later f g p q (Err e) same says = record {
  all = tt;
  front = λ names grew. subst (λ (us : List (Utterance Entry)). UttersFront begun p.log.entries.list q.log.entries.list p.held q.held us) (same names grew) (says.front names grew);
  names = says.names;
  ops = says.ops;
  over = says.over;
  cause = says.cause;
}

questions_named : (n : ℕ) (pairs : List Pair) → AllStatable n pairs → PairsAreNamed n pairs
questions_named n [] are = tt
questions_named n (p ∷ pairs) are = ((are.0.question_named, are.0.reply_named), questions_named n pairs are.1)

-- predicates that may be trusted are named
trust_named : (n : ℕ) (preds : List Pred) → AllMayTrust n preds → PredsAreNamed n preds
trust_named n [] may = tt
trust_named n (p ∷ ps) may = (may.0.named, trust_named n ps may.1)

-- what a session keeps reads back, where each of its statements is shallow
pub can_read_back : (ops : Table) (names : List (List ℕ)) (store : Store) → AreReplies (length names) store → HasShallowStatements ops store → CanReadBack ops names store
can_read_back ops names store are shallow = record { pairs = are.pairs; trust = are.trust; shallow = shallow }

-- the text was said
pub store_is_said : {T : Type 0} (store : Store) (text : List ℕ) (p q : Spoken) (r : Result T Trouble) → HasStandardNames (length p.log.names) → AreReplies (length p.log.names) store → text ≡ known_text p.log.ops p.log.names store → Says (one (Known text)) p q r
    → Says (λ ops names. store_said ops names store) p q r
store_is_said store text p q r standard named is says =
    let later : Lasting p.log.names (λ names. one (Known text) p.log.ops names ≡ store_said p.log.ops names store) = λ names grew.
    let more : known_text p.log.ops names store ≡ known_text p.log.ops p.log.names store =
    ap (λ (l : List (List ℕ)). known_text p.log.ops l store) grew.1 ∙ known_text-more p.log.ops p.log.names grew.0 store standard (questions_named (length p.log.names) store.pairs named.pairs) (trust_named (length p.log.names) store.trusted named.trust) in
    ap (λ (t : List ℕ). plain p.log.ops names (Known t) ∷ []) (is ∙ sym more) in
    says_later (one (Known text)) (λ ops names. store_said ops names store) p q r later says
