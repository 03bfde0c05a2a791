-- Where the variables of a clause that have a name stand among all of them.
use Rattle.std.specs.Prelude.{◌≡◌, ℕ, ◌<◌, ◌≤◌, false, List, length, get_or}
use Rattle.apd_term.specs.Names.{is_name, number_of}
use Rattle.apd_read.specs.Lexemes.{is_anonymous}

-- a text that isn't `_` is named exactly where it is a variable's, and its place is then that variable's
pub record IsIndexed (named : List (List ℕ)) (places : List ℕ) (texts : List (List ℕ)) : Type 0 where
  pub each : length places ≡ length named
  pub few : length named ≤ length texts
  pub known : (text : List ℕ) → is_anonymous text ≡ false → is_name named text ≡ is_name texts text
  pub placed : (text : List ℕ) → is_anonymous text ≡ false → number_of named text < length named → get_or places (number_of named text) 0 ≡ number_of texts text
