-- Saying one thing after another.
use Rattle.std.proofs.Common.{◌≡◌, ℕ, ◌≤◌, List, [], ◌∷◌, ◌++◌, length, refl, sym, ◌∙◌, subst}
use Rattle.std.specs.Prelude.{Result, Ok, Err}
use Rattle.apd_io.specs.Outside.{Adds, Counted, Rose}
use Rattle.apd_console.proofs.Printing.{Adds-self}
use Rattle.apd_console.specs.Print.{AddsFront}
use Rattle.apd_talk.specs.Utterance.{Utterance, Utters, UttersFront}
use Rattle.apd_talk.specs.declared.talk.Trouble.{Trouble}
use Rattle.apd_talk.specs.declared.talk.Trouble.TheVariants.{WriteFault, Memory}
use Rattle.apd_talk.proofs.Uttering.{Utters-nothing, Utters-one, Utters-more, UttersFront-none, UttersFront-one, UttersFront-less, UttersFront-more}
use Rattle.apd_ops.specs.Table.{Table}
use Rattle.apd_term.specs.Growth.{Grown}
use Rattle.apd_text.specs.Entries.{text_of}
use Rattle.apd_text.specs.EntryList.{EntryList}
use Rattle.apd_text.specs.Named.{EntryIsNamed}
use Rattle.apd_text.proofs.MoreNames.{text_of-more}
use Rattle.apd_text.specs.declared.entry.Entry.{Entry}
use Rattle.apd_talk.specs.Speech.{is_write_fault, Lasting, Says, Speech, Spoken, begun, one, plain, with_entries}

-- one speech after another
abbrev pub both : Speech → Speech → Speech
both us vs ops names = us ops names ++ vs ops names

-- nothing is said
pub Says-nothing : {T : Type 0} (p : Spoken) (t : T) → Says (λ ops names. []) p p (Ok t)
Says-nothing p t = record {
  all = λ names grew. Utters-nothing p.log.entries.list p.held;
  front = tt;
  names = refl;
  ops = refl;
  over = refl;
  cause = refl;
}

-- there was no memory, and nothing was said
pub Says-none : {T : Type 0} (speech : Speech) (p q : Spoken) → q.log.entries.list ≡ p.log.entries.list → q.held ≡ p.held → q.log.names ≡ p.log.names → q.log.ops ≡ p.log.ops → q.write_faults ≡ p.write_faults → q.over ≡ p.over → Says {T = T} speech p q (Err Memory)
Says-none speech p q entries held names ops same over = record {
  all = tt;
  front = λ all grew. rw held (UttersFront-none begun p.log.entries.list q.log.entries.list p.held (speech p.log.ops all) entries);
  names = names;
  ops = ops;
  over = over;
  cause = same;
}

-- an entry is in the log, and its text was printed
pub Says-one : {T : Type 0} (e : Entry) (p q : Spoken) (t : T) (text : List ℕ) → EntryIsNamed (length p.log.names) e → text ≡ text_of p.log.ops p.log.names e → q.log.entries.list ≡ p.log.entries.list ++ e ∷ [] → Adds p.held q.held text →
    q.log.names ≡ p.log.names → q.log.ops ≡ p.log.ops → q.write_faults ≡ p.write_faults → q.over ≡ p.over → Says (one e) p q (Ok t)
Says-one e p q t text named is pushed adds names ops same over = record {
  all = λ all grew.
      rw grew.1
      (Utters-one p.log.entries.list q.log.entries.list p.held q.held (plain p.log.ops (p.log.names ++ grew.0) e) pushed
      (subst (λ (t : List ℕ). Adds p.held q.held t) (is ∙ sym (text_of-more p.log.ops p.log.names grew.0 e named)) adds));
  front = tt;
  names = names;
  ops = ops;
  over = over;
  cause = same;
}

-- the front of its text was printed
pub Says-front : {T : Type 0} (e : Entry) (p q : Spoken) (text : List ℕ) → EntryIsNamed (length p.log.names) e → text ≡ text_of p.log.ops p.log.names e → q.log.entries.list ≡ p.log.entries.list ++ e ∷ [] → AddsFront p.held q.held text →
    q.log.names ≡ p.log.names → q.log.ops ≡ p.log.ops → p.write_faults ≤ q.write_faults → Rose p.write_faults q.write_faults → q.over ≡ p.over → Says {T = T} (one e) p q (Err WriteFault)
Says-front e p q text named is pushed adds names ops later rose over = record {
  all = tt;
  front = λ all grew.
      rw grew.1
      (UttersFront-one begun p.log.entries.list q.log.entries.list p.held q.held (plain p.log.ops (p.log.names ++ grew.0) e) pushed
      (subst (λ (t : List ℕ). AddsFront p.held q.held t) (is ∙ sym (text_of-more p.log.ops p.log.names grew.0 e named)) adds));
  names = names;
  ops = ops;
  over = over;
  cause = (rose, later);
}

-- there was no memory for its text
pub Says-unprinted : {T : Type 0} (e : Entry) (p q : Spoken) → q.log.entries.list ≡ p.log.entries.list ++ e ∷ [] → q.held ≡ p.held → q.log.names ≡ p.log.names → q.log.ops ≡ p.log.ops → q.write_faults ≡ p.write_faults → q.over ≡ p.over → Says {T = T} (one e) p q (Err Memory)
Says-unprinted e p q pushed held names ops same over = record {
  all = tt;
  front = λ all grew.
      let text = text_of p.log.ops all e in
      rw held (UttersFront-one begun p.log.entries.list q.log.entries.list p.held p.held (plain p.log.ops all e) pushed (text, record { shown = []; parts = refl; adds = Adds-self p.held }));
  names = names;
  ops = ops;
  over = over;
  cause = same;
}

-- places for entries change nothing of what is said

pub Says-with : {T : Type 0} (speech : Speech) (p q : Spoken) (e : EntryList) (result : Result T Trouble) → e.list ≡ p.log.entries.list → Says speech (with_entries p e) q result → Says speech p q result
Says-with speech p q e (Ok t) same says = record {
  all = λ all grew. subst (λ (l : List Entry). Utters l q.log.entries.list p.held q.held (speech p.log.ops all)) same (says.all all grew);
  front = tt;
  names = says.names;
  ops = says.ops;
  over = says.over;
  cause = says.cause;
}
Says-with speech p q e (Err t) same says = record {
  all = tt;
  front = λ all grew. subst (λ (l : List Entry). UttersFront begun l q.log.entries.list p.held q.held (speech p.log.ops all)) same (says.front all grew);
  names = says.names;
  ops = says.ops;
  over = says.over;
  cause = says.cause;
}

-- what was said from q, told from p
later_names : (p q : Spoken) (all : List (List ℕ)) → q.log.names ≡ p.log.names → Grown p.log.names all → Grown q.log.names all
later_names p q all same grew = subst (λ (l : List (List ℕ)). Grown l all) (sym same) grew

later_all : {T : Type 0} (speech : Speech) (p q r : Spoken) (t : T) → q.log.names ≡ p.log.names → q.log.ops ≡ p.log.ops → Says speech q r (Ok t) →
    Lasting p.log.names (λ names. Utters q.log.entries.list r.log.entries.list q.held r.held (speech p.log.ops names))
later_all speech p q r t names ops says = λ all grew.
    subst (λ (o : Table). Utters q.log.entries.list r.log.entries.list q.held r.held (speech o all)) ops (says.all all (later_names p q all names grew))

later_front : {T : Type 0} (speech : Speech) (p q r : Spoken) (t : Trouble) → q.log.names ≡ p.log.names → q.log.ops ≡ p.log.ops → Says {T = T} speech q r (Err t) →
    Lasting p.log.names (λ names. UttersFront begun q.log.entries.list r.log.entries.list q.held r.held (speech p.log.ops names))
later_front speech p q r t names ops says = λ all grew.
    subst (λ (o : Table). UttersFront begun q.log.entries.list r.log.entries.list q.held r.held (speech o all)) ops (says.front all (later_names p q all names grew))

-- what a trouble says of the count, where no fault was answered before
pub cause_after : (a b c : ℕ) (e : Trouble) → b ≡ a → Counted (is_write_fault e) b c → Counted (is_write_fault e) a c
cause_after a b c e same cause = subst (λ (n : ℕ). Counted (is_write_fault e) n c) same cause

-- one thing and then another
pub Says-more : {T U : Type 0} (us vs : Speech) (p q r : Spoken) (t : T) (result : Result U Trouble) → Says us p q (Ok t) → Says vs q r result → Says (both us vs) p r result
Says-more us vs p q r t (Ok u) first second = record {
  all = λ all grew.
      Utters-more p.log.entries.list q.log.entries.list r.log.entries.list p.held q.held r.held (us p.log.ops all) (vs p.log.ops all) (first.all all grew)
      (later_all vs p q r u first.names first.ops second all grew);
  front = tt;
  names = second.names ∙ first.names;
  ops = second.ops ∙ first.ops;
  over = second.over ∙ first.over;
  cause = second.cause ∙ first.cause;
}
Says-more us vs p q r t (Err e) first second = record {
  all = tt;
  front = λ all grew.
      UttersFront-more begun p.log.entries.list q.log.entries.list r.log.entries.list p.held q.held r.held (us p.log.ops all) (vs p.log.ops all) (first.all all grew)
      (later_front vs p q r e first.names first.ops second all grew);
  names = second.names ∙ first.names;
  ops = second.ops ∙ first.ops;
  over = second.over ∙ first.over;
  cause = cause_after p.write_faults q.write_faults r.write_faults e first.cause second.cause;
}

pub Says-err : {T U : Type 0} (us : Speech) (p q : Spoken) (e : Trouble) → Says {T = T} us p q (Err e) → Says {T = U} us p q (Err e)
Says-err us p q e says = record { all = tt; front = says.front; names = says.names; ops = says.ops; over = says.over; cause = says.cause }

pub Says-ok : {T U : Type 0} (us : Speech) (p q : Spoken) (t : T) (u : U) → Says us p q (Ok t) → Says us p q (Ok u)
Says-ok us p q t u says = record { all = says.all; front = tt; names = says.names; ops = says.ops; over = says.over; cause = says.cause }

-- the front of one thing is a front of it with more
pub Says-less : {T U : Type 0} (us vs : Speech) (p q : Spoken) (e : Trouble) → Says {T = T} us p q (Err e) → Says {T = U} (both us vs) p q (Err e)
Says-less us vs p q e says = record {
  all = tt;
  front = λ all grew. UttersFront-less begun p.log.entries.list q.log.entries.list p.held q.held (us p.log.ops all) (vs p.log.ops all) (says.front all grew);
  names = says.names;
  ops = says.ops;
  over = says.over;
  cause = says.cause;
}

-- the same thing in other words
pub Says-as : {T : Type 0} (us vs : Speech) (p q : Spoken) (result : Result T Trouble) → ((ops : Table) (names : List (List ℕ)) → us ops names ≡ vs ops names) → Says us p q result → Says vs p q result
Says-as us vs p q (Ok t) same says = record {
  all = λ all grew. subst (λ (l : List (Utterance Entry)). Utters p.log.entries.list q.log.entries.list p.held q.held l) (same p.log.ops all) (says.all all grew);
  front = tt;
  names = says.names;
  ops = says.ops;
  over = says.over;
  cause = says.cause;
}
Says-as us vs p q (Err e) same says = record {
  all = tt;
  front = λ all grew. subst (λ (l : List (Utterance Entry)). UttersFront begun p.log.entries.list q.log.entries.list p.held q.held l) (same p.log.ops all) (says.front all grew);
  names = says.names;
  ops = says.ops;
  over = says.over;
  cause = says.cause;
}
