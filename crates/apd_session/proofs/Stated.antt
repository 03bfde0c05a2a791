-- What an oracle file states may be asked and trusted, whatever names are kept; so where its names are, it is what a session keeps.
use Rattle.std.proofs.Common.{◌≡◌, ℕ, zero, suc, ◌+◌, Bool, true, false, List, [], ◌∷◌, length, Option, None, Some, Result, Ok, Err, refl, arith}
use Rattle.std.specs.Prelude.{if◌then◌else◌, nat_lt, ⊤}
use Rattle.std.specs.List.{AllByRecursion}
use Rattle.apd_answers.specs.Named.{QuestionIsNamed, ReplyIsNamed}
use Rattle.apd_answers.specs.Store.{Store}
use Rattle.apd_answers.specs.declared.store.Pair.{Pair}
use Rattle.apd_causes.specs.declared.faults.OracleCause.{OracleCause}
use Rattle.apd_causes.specs.declared.faults.ReadFault.{ReadFault}
use Rattle.apd_causes.specs.declared.faults.TokenFault.{TokenFault}
use Rattle.apd_causes.specs.declared.reading.Read.{Read}
use Rattle.apd_clauses.specs.declared.clause.Clause.{Clause}
use Rattle.apd_debug.specs.NamedStates.{AreReplies}
use Rattle.apd_known.specs.Files.{States, refused, states, after_division, after_reading, after_term, at_end, stated_from, stated_in}
use Rattle.apd_known.specs.Pairs.{AllMayTrust, AllStatable}
use Rattle.apd_known.specs.Statements.{with_clause}
use Rattle.apd_known.specs.declared.file.Stated.{Stated}
use Rattle.apd_known.proofs.Kept.{MayState, SoFar, so_far_more, so_far_next}
use Rattle.apd_load.specs.Lines.{line_at}
use Rattle.apd_load.specs.Program.{Loads, program_of}
use Rattle.apd_load.specs.Program as loading
use Rattle.apd_load.specs.declared.Note.{Note}
use Rattle.apd_ops.specs.Table.{Table}
use Rattle.apd_read.specs.Reader.{Reader}
use Rattle.apd_term.specs.Named.{AreNamed, IsNamed}
use Rattle.apd_term.specs.Term.{Term, Terms, variable, integer, compound, none, more}
use Rattle.apd_term.specs.declared.term.Pred.{Pred}
use Rattle.apd_term.proofs.Named.{AreNamed-more, IsNamed-more}
use Rattle.apd_text.specs.FilterTerms.{PredsAreNamed}
use Rattle.apd_token.specs.declared.items.Token.{Token}
use Rattle.apd_words.specs.Words.{Options}
use Rattle.apd_session.specs.Opening.{course_of, opening_after, opening_by, opening_of, opening_with, prepared, prepared_by, prepared_from, referred, stop, subject_text}
use Rattle.apd_session.specs.Roles.{Role, FileLoad, Gives, Faults, KnownReplies, Reference}
use Rattle.apd_session.specs.Roles as roles
use Rattle.apd_session.specs.Written.{StoreIsNamed}
use Rattle.apd_session.specs.declared.opening.Course.{Course}
use Rattle.apd_session.specs.declared.opening.Opening.{Opening}
use Rattle.apd_session.specs.declared.opening.Opening.TheVariants.{Unloaded, Closed, Open}
use Rattle.apd_session.specs.declared.opening.Stop.{Stop}
use Rattle.apd_session.specs.declared.preparing.Prepared.{Prepared}
use Rattle.apd_session.specs.declared.preparing.Prepared.TheVariants.{Knows, Refuses}
use Rattle.apd_session.specs.declared.referring.Referring.{Referring}
use Rattle.apd_session.specs.declared.referring.Referring.TheVariants.{Asks, Stops}
use Rattle.apd_session.specs.declared.status.Status.TheVariants as status
use Rattle.apd_text.specs.declared.entry.Entry.TheVariants.{FileTooLong}

-- a term has names below some number
abbrev mutual
  bound : Term → ℕ
  bound (variable v) = 0
  bound (integer i) = 0
  bound (compound f ts) = suc f.0 + bounds ts

  bounds : Terms → ℕ
  bounds none = 0
  bounds (more t ts) = bound t + bounds ts

mutual
  bound_named : (t : Term) → IsNamed (bound t) t
  bound_named (variable v) = tt
  bound_named (integer i) = tt
  bound_named (compound f ts) = (omega arith, AreNamed-more (bounds ts) (suc f.0 + bounds ts) ts (omega arith) (bounds_named ts))

  bounds_named : (ts : Terms) → AreNamed (bounds ts) ts
  bounds_named none = tt
  bounds_named (more t ts) = (IsNamed-more (bound t) (bound t + bounds ts) t (omega arith) (bound_named t), AreNamed-more (bounds ts) (bound t + bounds ts) ts (omega arith) (bounds_named ts))

-- by some names, what is kept may be stated
abbrev pub MayBeKnown : Store → Type 0
MayBeKnown store = (n : ℕ) × MayState n store

abbrev MaySoFar : Option Stated → Type 0
MaySoFar s = (n : ℕ) × SoFar n s

abbrev MayIn : States → Type 0
MayIn (refused line cause) = ⊤
MayIn (states s) = MayBeKnown s.answers

end_may : (s : Option Stated) → MaySoFar s → MayIn (at_end s)
end_may None h = tt
end_may (Some s) h = h

next_may : (s : Option Stated) (now : Stated) (t : Term) → with_clause s t ≡ Ok now → MaySoFar s → MayBeKnown now.answers
next_may s now t e h =
    let n = h.0 + bound t in
    (n, so_far_next n s now t e (IsNamed-more (bound t) n t (omega arith) (bound_named t)) (so_far_more h.0 n s (omega arith) h.1))

module _ {names : List (List ℕ)} (reader : Reader names) (ops : Table) (text : List ℕ) (tokens : List Token) where
  -- what is behind a clause
  abbrev RestMay : ℕ → Type 0
  RestMay n = (next : ℕ) (s : Option Stated) → MaySoFar s → MayIn (stated_from reader ops text tokens n next s)

  term_may : (n line next : ℕ) → RestMay n → (s : Option Stated) (t : Term) (w : Result Stated OracleCause) → with_clause s t ≡ w → MaySoFar s → MayIn (after_term line w (stated_from reader ops text tokens n next))
  term_may n line next rest s t (Err cause) e h = tt
  term_may n line next rest s t (Ok now) e h = rest next (Some now) (next_may s now t e h)

  reading_may : (n : ℕ) → RestMay n → (s : Option Stated) (r : Result Read ReadFault) → MaySoFar s → MayIn (after_reading text s r (stated_from reader ops text tokens n))
  reading_may n rest s (Err fault) h = tt
  reading_may n rest s (Ok r) h = term_may n (line_at text r.start) r.next rest s r.term (with_clause s r.term) refl h

  place_may : (n : ℕ) → RestMay n → (b : Bool) (s : Option Stated) (r : Result Read ReadFault) → MaySoFar s → MayIn (if b then after_reading text s r (stated_from reader ops text tokens n) else at_end s)
  place_may n rest true s r h = reading_may n rest s r h
  place_may n rest false s r h = end_may s h

  rest_may : (n : ℕ) → RestMay n
  rest_may zero at s h = end_may s h
  rest_may (suc n) at s h = place_may n (rest_may n) (nat_lt at (length tokens)) s (reader.clause ops text tokens at) h

stated_may : {names : List (List ℕ)} (reader : Reader names) (ops : Table) (text : List ℕ) → MayIn (stated_in reader ops text)
unfolding stated_in
stated_may reader ops text = by_division (reader.division text)
  where
    by_division : (d : Result (List Token) TokenFault) → MayIn (after_division reader ops text d)
    by_division (Err fault) = tt
    by_division (Ok tokens) = rest_may reader ops text tokens (length tokens) 0 None (0, tt)

-- so it is of what a session begins with
abbrev PreparedMay : Prepared → Type 0
PreparedMay (Knows statements store) = MayBeKnown store
PreparedMay (Refuses why) = ⊤

by_may : (w : States) → MayIn w → PreparedMay (prepared_by w)
by_may (refused line cause) h = tt
by_may (states s) h = h

prepared_may : {names : List (List ℕ)} (reader : Reader names) (ops : Table) (name : Option (List ℕ)) (loading : FileLoad) → PreparedMay (prepared reader ops name loading)
prepared_may reader ops None loading = (0, record { pairs = tt; trust = tt })
prepared_may reader ops (Some name) Faults = tt
prepared_may reader ops (Some name) (Gives text) = by (nat_lt 1048576 (length text))
  where
    by : (b : Bool) → PreparedMay (prepared_from reader ops (if b then Err (stop (FileTooLong 1048577) status.FileTooLong) else Ok text))
    by true = tt
    by false = by_may (stated_in reader ops text) (stated_may reader ops text)

abbrev pub OpeningMay : Opening → Type 0
OpeningMay (Unloaded why) = ⊤
OpeningMay (Closed ops b why) = ⊤
OpeningMay (Open ops start course) = MayBeKnown start.state.replies

with_may : (options : Options) (program : List Clause) (ops : Table) (passed : List Note) (x : Prepared) (r : Referring) (c : Result Course Stop) → PreparedMay x → OpeningMay (opening_with options program ops passed x r c)
with_may options program ops passed (Refuses why) r c h = tt
with_may options program ops passed (Knows statements store) (Stops why) c h = tt
with_may options program ops passed (Knows statements store) (Asks referee reference) (Ok course) h = h
with_may options program ops passed (Knows statements store) (Asks referee reference) (Err why) h = tt

module _ {names : List (List ℕ)} (reader : Reader names) (files : Role → FileLoad) where
  after_may : (options : Options) (o : Loads) → OpeningMay (opening_after reader files options o)
  after_may options (loading.refused line cause) = tt
  after_may options (loading.loads l) =
      with_may options l.program l.ops l.passed (prepared reader l.ops options.oracle (files KnownReplies)) (referred reader options.budget options.reference (files Reference)) (course_of (files roles.Log) options.subject)
      (prepared_may reader l.ops options.oracle (files KnownReplies))

  text_may : (options : Options) (text : Result (List ℕ) Stop) → OpeningMay (opening_by reader files options text)
  text_may options (Err why) = tt
  text_may options (Ok text) = after_may options (program_of reader text)

  pub opening-may : (o : Option Options) → OpeningMay (opening_of reader files o)
  opening-may None = tt
  opening-may (Some options) = text_may options (subject_text files options.subject)

-- with names that are kept
pairs-kept : (n m : ℕ) (pairs : List Pair) → AllStatable n pairs → AllByRecursion (λ (p : Pair). QuestionIsNamed m p.question × ReplyIsNamed m p.reply) pairs → AllStatable m pairs
pairs-kept n m [] may named = tt
pairs-kept n m (p ∷ ps) may named = (record { asked = may.0.asked; fits = may.0.fits; question_named = named.0.0; reply_named = named.0.1 }, pairs-kept n m ps may.1 named.1)

trust-kept : (n m : ℕ) (preds : List Pred) → AllMayTrust n preds → PredsAreNamed m preds → AllMayTrust m preds
trust-kept n m [] may named = tt
trust-kept n m (p ∷ ps) may named = (record { own = may.0.own; named = named.0 }, trust-kept n m ps may.1 named.1)

pub known-kept : (m : ℕ) (store : Store) → MayBeKnown store → StoreIsNamed m store → AreReplies m store
known-kept m store (n, may) named = record { pairs = pairs-kept n m store.pairs may.pairs named.pairs; trust = trust-kept n m store.trusted may.trust named.trust }
