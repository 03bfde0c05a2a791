-- What a text divides into, want of memory aside.
use Rattle.std.specs.Prelude.{ℕ, List, Result, Ok, Err, IsUtf8}
use Rattle.apd_causes.specs.declared.faults.TokenFault.{TokenFault}
use Rattle.apd_causes.specs.declared.faults.TokenFault.TheVariants as faults
use Rattle.apd_token.specs.declared.items.Token.{Token}
use Rattle.apd_token.specs.Grammar.{HasTokens, IsFaultOf}

-- the text's tokens, or its first fault
abbrev pub IsDivided : List ℕ → Result (List Token) TokenFault → Type 0
IsDivided text (Ok ts) = IsUtf8 text × HasTokens text ts
IsDivided text (Err faults.Memory) = ⊥
IsDivided text (Err f) = IsFaultOf text f
