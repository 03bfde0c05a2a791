-- The lines of the clauses of a session's program are few: its text is no longer than a file may be.
use Rattle.std.proofs.Common.{◌≡◌, ℕ, ◌+◌, ◌≤◌, Bool, true, false, List, length, Option, Some, None, Result, Ok, Err, refl, arith}
use borrow.Author.Tests.{ltb-false}
use Rattle.std.specs.Prelude.{nat_lt, if◌then◌else◌, ⊤}
use Rattle.apd_base.specs.declared.limits.TheConstants.{MAX_FILE}
use Rattle.apd_clauses.specs.declared.clause.Clause.{Clause}
use Rattle.apd_load.specs.Program.{Loads, refused, loads, program_of}
use Rattle.apd_load.specs.declared.Note.{Note}
use Rattle.apd_load.proofs.Lined.{AreLinedBy, LoadsLined, lined-later, program-lined}
use Rattle.apd_ops.specs.Table.{Table}
use Rattle.apd_read.specs.Reader.{Reader}
use Rattle.apd_words.specs.Words.{InFile, OfLog, OfTree, Options, Subject}
use Rattle.apd_session.specs.Opening.{course_of, course_with, opening_after, opening_by, opening_of, opening_with, prepared, referred, subject_text, text_in}
use Rattle.apd_session.specs.Roles as roles
use Rattle.apd_session.specs.Roles.{Role, FileLoad, Faults, Gives, KnownReplies, Reference, file_of}
use Rattle.apd_session.specs.declared.opening.Course.{Course}
use Rattle.apd_session.specs.declared.opening.Course.TheVariants.{Hears, Plays, Checks}
use Rattle.apd_session.specs.declared.opening.Opening.{Opening}
use Rattle.apd_session.specs.declared.opening.Opening.TheVariants.{Unloaded, Closed, Open}
use Rattle.apd_session.specs.declared.opening.Stop.{Stop}
use Rattle.apd_session.specs.declared.preparing.Prepared.{Prepared}
use Rattle.apd_session.specs.declared.preparing.Prepared.TheVariants.{Knows, Refuses}
use Rattle.apd_session.specs.declared.referring.Referring.{Referring}
use Rattle.apd_session.specs.declared.referring.Referring.TheVariants.{Asks, Stops}

abbrev IsTextShort : Result (List ℕ) Stop → Type 0
IsTextShort (Err why) = ⊤
IsTextShort (Ok text) = length text ≤ MAX_FILE

text-short : (loading : FileLoad) → IsTextShort (text_in loading)
text-short Faults = tt
text-short (Gives text) = by _ (nat_lt MAX_FILE (length text)) refl
  where
    by : (why : Stop) (b : Bool) → nat_lt MAX_FILE (length text) ≡ b → IsTextShort (if b then Err why else Ok text)
    by why true e = tt
    by why false e = ltb-false MAX_FILE (length text) e

-- the lines of its program's clauses
abbrev pub IsOpeningLined : Opening → Type 0
IsOpeningLined (Unloaded why) = ⊤
IsOpeningLined (Closed ops b why) = ⊤
IsOpeningLined (Open ops start Hears) = AreLinedBy (1 + MAX_FILE) start.state.program
IsOpeningLined (Open ops start (Plays nodes)) = ⊤
IsOpeningLined (Open ops start (Checks text)) = ⊤

with-lined : (options : Options) (program : List Clause) (ops : Table) (passed : List Note) (x : Prepared) (r : Referring) (c : Result Course Stop) → (c ≡ Ok Hears → AreLinedBy (1 + MAX_FILE) program)
    → IsOpeningLined (opening_with options program ops passed x r c)
with-lined options program ops passed (Refuses why) r c h = tt
with-lined options program ops passed (Knows statements store) (Stops why) c h = tt
with-lined options program ops passed (Knows statements store) (Asks referee reference) (Ok Hears) h = h refl
with-lined options program ops passed (Knows statements store) (Asks referee reference) (Ok (Plays nodes)) h = tt
with-lined options program ops passed (Knows statements store) (Asks referee reference) (Ok (Checks text)) h = tt
with-lined options program ops passed (Knows statements store) (Asks referee reference) (Err why) h = tt

module _ {names : List (List ℕ)} (reader : Reader names) (files : Role → FileLoad) where
  by-lined : (options : Options) (text : Result (List ℕ) Stop) → (course_of (files roles.Log) options.subject ≡ Ok Hears → IsTextShort text) → IsOpeningLined (opening_by reader files options text)
  by-lined options (Err why) h = tt
  by-lined options (Ok text) h = after (program_of reader text) (program-lined reader text)
    where
      after : (o : Loads) → LoadsLined (1 + length text) o → IsOpeningLined (opening_after reader files options o)
      after (refused line cause) k = tt
      after (loads l) k =
          with-lined options l.program l.ops l.passed (prepared reader l.ops (file_of options KnownReplies) (files KnownReplies)) (referred reader options.budget (file_of options Reference) (files Reference)) (course_of (files roles.Log) options.subject)
          (λ e. let m = h e in lined-later (1 + length text) (1 + MAX_FILE) l.program (omega (arith, m)) k)

  -- only a file is heard for
  heard-short : (subject : Subject) → course_of (files roles.Log) subject ≡ Ok Hears → IsTextShort (subject_text files subject)
  heard-short (InFile name) e = text-short (files roles.Program)
  heard-short (OfTree nodes) e = absurd (cc)
  heard-short (OfLog program log) e = by (text_in (files roles.Log)) e
    where
      by : (r : Result (List ℕ) Stop) → course_with r ≡ Ok Hears → IsTextShort (subject_text files (OfLog program log))
      by (Err why) f = absurd (cc)
      by (Ok text) f = absurd (cc)

  pub opening-lined : (o : Option Options) → IsOpeningLined (opening_of reader files o)
  opening-lined None = tt
  opening-lined (Some options) = by-lined options (subject_text files options.subject) (heard-short options.subject)
