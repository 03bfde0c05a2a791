-- Where the diagnoses of a session stand.
use Rattle.std.specs.Prelude.{ℕ}
use Rattle.apd_answers.specs.declared.question.Reply.{Reply}
use Rattle.apd_answers.specs.declared.question.Asked.{Asked}
use Rattle.apd_answers.specs.Store.{Store}

-- ready for a command, or a question waits; each reply to it leads to a state of its diagnosis
pub data Mode (D : Type 0) : Type 0 where
  Ready : Mode D
  Asking : Asked → (Reply → D) → Mode D

-- the replies that are kept, how many questions were asked, and what is waited for
pub record Stand (D : Type 0) : Type 0 where
  pub store : Store
  pub asked : ℕ
  pub mode : Mode D

abbrev pub ready : {D : Type 0} → Store → ℕ → Stand D
ready store asked = record { store = store; asked = asked; mode = Ready }

abbrev pub asking : {D : Type 0} → Store → ℕ → Asked → (Reply → D) → Stand D
asking store count asked next = record { store = store; asked = count; mode = Asking asked next }
