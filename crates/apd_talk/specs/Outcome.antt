-- A whole conversation: an input that agrees with what the source tells, and what was said to it.
use Rattle.std.specs.Prelude.{ℕ, ◌≡◌, ◌≤◌, List, [], ◌++◌, length, Option, None, Some, ⊤}
use Rattle.apd_io.specs.Outside.{Left, Takes}
use Rattle.apd_talk.specs.declared.talk.Ending.{Ending}
use Rattle.apd_console.specs.Lines.{InputEnd, Ended, Fails}
use Rattle.apd_talk.specs.Utterance.{Utters}
use Rattle.apd_talk.specs.Talk.{Said}
use Rattle.apd_base.specs.declared.limits.TheConstants.{MAX_INPUT}

-- where an input is told, these bytes are it, or its front if a read fails
abbrev pub IsGiven : Option (List ℕ) → List ℕ → InputEnd → Type 0
IsGiven None input ends = ⊤
IsGiven (Some known) input Ended = input ≡ known
IsGiven (Some known) input Fails = (rest : List ℕ) × (known ≡ input ++ rest)

-- the bytes that a source gave are the first of the input: at most 16,777,216, and all of them where a read fails
pub record IsTaken (left left_now : Left) (input : List ℕ) (ends : InputEnd) : Type 0 where
  pub bytes : List ℕ
  pub takes : Takes left left_now bytes
  pub few : length bytes ≤ MAX_INPUT
  pub rest : List ℕ
  pub first : input ≡ bytes ++ rest
  pub all : ends ≡ Fails → rest ≡ []

-- some input is as far as it is told, fails only where a read has failed, and begins with what was taken; and P holds of it
pub record SomeInput (left left_now : Left) (failed : Type 0) (P : List ℕ → InputEnd → Type 0) : Type 0 where
  pub input : List ℕ
  pub ends : InputEnd
  pub given : IsGiven left.bytes input ends
  pub fails : ends ≡ Fails → failed
  pub taken : IsTaken left left_now input ends
  pub holds : P input ends

-- all was said and printed, and it ended so
pub record IsWhole {E : Type 0} (said : Said E) (ending : Ending) (log log_now : List E) (held held_now : Option (List ℕ)) : Type 0 where
  pub ending_is : said.ending ≡ ending
  pub says : Utters log log_now held held_now said.utterances
