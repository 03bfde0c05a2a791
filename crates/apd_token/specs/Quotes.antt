-- What stands between quotes.
use Rattle.std.specs.Prelude.{◌≡◌, ℕ, ◌<◌, ◌+◌, ◌*◌, List, [], ◌∷◌, ◌++◌, length, Bool, true, false, ◌==◌, fold, encode_utf8}
use Rattle.std.specs.List.{flat_map}
use Rattle.std.specs.Char.{IsScalar, digit_value}
use Rattle.apd_token.specs.Bytes.{in_set, escape_of, simple_code}
use Rattle.apd_token.specs.declared.bytes.Set.{Set}
use Rattle.apd_token.specs.declared.bytes.Set.TheVariants as sets
use Rattle.apd_token.specs.declared.bytes.Escape.{Escape}
use Rattle.apd_token.specs.declared.bytes.Escape.TheVariants.{Newline, Octal, Hex, Simple, Unknown}

-- each byte is of the set
abbrev pub AllIn : Set → List ℕ → Type 0
AllIn set [] = Unit {0}
AllIn set (b ∷ bs) = (in_set set b ≡ true) × AllIn set bs

-- the number that digits of a radix stand for
abbrev pub numeral : ℕ → List ℕ → ℕ
numeral radix ds = fold (λ n d. n * radix + digit_value d) 0 ds

-- digits and a backslash
pub record IsDigits (set : Set) (bytes digits : List ℕ) : Type 0 where
  pub spelled : bytes ≡ digits ++ 92 ∷ []
  pub each : AllIn set digits

-- the code that the byte e and the bytes behind it stand for after a backslash
abbrev pub CodeOf : Escape → ℕ → List ℕ → ℕ → Type 0
CodeOf Newline e bytes code = ⊥
CodeOf Octal e bytes code = (ds : List ℕ) × IsDigits sets.Octal bytes ds × (code ≡ numeral 8 (e ∷ ds)) × IsScalar code
CodeOf Hex e bytes code = (ds : List ℕ) × IsDigits sets.Hex bytes ds × (0 < length ds) × (code ≡ numeral 16 ds) × IsScalar code
CodeOf Simple e bytes code = (bytes ≡ []) × (code ≡ simple_code e)
CodeOf Unknown e bytes code = ⊥

abbrev pub EscapeOf : Escape → ℕ → List ℕ → List ℕ → Type 0
EscapeOf Newline e bytes value = (bytes ≡ []) × (value ≡ [])
EscapeOf Octal e bytes value = (code : ℕ) × CodeOf Octal e bytes code × (value ≡ encode_utf8 code)
EscapeOf Hex e bytes value = (code : ℕ) × CodeOf Hex e bytes code × (value ≡ encode_utf8 code)
EscapeOf Simple e bytes value = (code : ℕ) × CodeOf Simple e bytes code × (value ≡ encode_utf8 code)
EscapeOf Unknown e bytes value = ⊥

-- What a byte b, a backslash or not and a quote q or not, and the bytes behind it stand for between quotes q.
abbrev pub ElementOf : Bool → Bool → ℕ → ℕ → List ℕ → List ℕ → Type 0
ElementOf true same q b [] value = ⊥
ElementOf true same q b (e ∷ bytes) value = EscapeOf (escape_of e) e bytes value
ElementOf false true q b bytes value = (bytes ≡ q ∷ []) × (value ≡ q ∷ [])
ElementOf false false q b bytes value = (bytes ≡ []) × (value ≡ b ∷ [])

-- Between quotes q the bytes stand for the value: a byte for itself, a doubled quote for one, an escape for its character.
abbrev pub IsElement : ℕ → List ℕ → List ℕ → Type 0
IsElement q [] value = ⊥
IsElement q (b ∷ bytes) value = ElementOf (b == 92) (b == q) q b bytes value

pub record Element : Type 0 where
  pub bytes : List ℕ
  pub value : List ℕ

abbrev pub AreElements : ℕ → List Element → Type 0
AreElements q [] = Unit {0}
AreElements q (e ∷ es) = IsElement q e.bytes e.value × AreElements q es

abbrev pub spelling : List Element → List ℕ
spelling es = flat_map (λ (e : Element). e.bytes) es

abbrev pub meaning : List Element → List ℕ
meaning es = flat_map (λ (e : Element). e.value) es

-- no element stands at the front
abbrev pub NoElement : ℕ → List ℕ → Type 0
NoElement q text = (bytes value rest : List ℕ) → IsElement q bytes value → text ≡ bytes ++ rest → ⊥
