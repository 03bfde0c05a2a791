-- Where faults and causes are in a text.
use Rattle.std.specs.Prelude.{ℕ, Option, None, Some}
use Rattle.apd_causes.specs.declared.faults.LoadCause.{LoadCause}
use Rattle.apd_causes.specs.declared.faults.LoadCause.TheVariants.{Token, Read, Op, Body, ClausesOver}
use Rattle.apd_causes.specs.declared.faults.TokenFault.{TokenFault}
use Rattle.apd_causes.specs.declared.faults.TokenFault.TheVariants as token
use Rattle.apd_causes.specs.declared.faults.ReadFault.{ReadFault}
use Rattle.apd_causes.specs.declared.faults.ReadFault.TheVariants as read

-- where in the text a fault is
abbrev pub token_place : TokenFault → Option ℕ
token_place (token.NotUtf8 at) = Some at
token_place (token.BadChar at) = Some at
token_place (token.OpenQuote at) = Some at
token_place (token.OpenComment at) = Some at
token_place (token.BadEscape at) = Some at
token_place (token.NumberTooWide at) = Some at
token_place (token.FloatLiteral at) = Some at
token_place token.Memory = None

abbrev pub read_place : ReadFault → Option ℕ
read_place (read.NoTerm at) = Some at
read_place (read.Priority at) = Some at
read_place (read.Unclosed at) = Some at
read_place (read.Stray at) = Some at
read_place (read.NoEnd at) = Some at
read_place (read.ArityOver at) = Some at
read_place (read.Wide at) = Some at
read_place (read.TooDeep at) = Some at
read_place read.Memory = None

abbrev pub cause_place : LoadCause → Option ℕ
cause_place (Token f) = token_place f
cause_place (Read f) = read_place f
cause_place (Op c) = None
cause_place (Body f) = None
cause_place ClausesOver = None
