-- Marks of symbols: numbers of 64 bits, in which each symbol's bits are mixed with those before it.
use Rattle.std.specs.Prelude.{ℕ, ◌+◌, ◌*◌, ◌/◌, ◌%◌, ◌^◌, bit_xor}
use Rattle.std.specs.Int.{cast_unsigned, w64}
use Rattle.std.specs.List.{fold}
use Rattle.apd_term.specs.Term.{Term, spell}
use Rattle.apd_term.specs.declared.term.Sym.{Sym}
use Rattle.apd_term.specs.declared.term.Sym.TheVariants.{Var, Int, Fun}

-- what a symbol is, and its 64 bits among those that are the same: two symbols differ in one of these numbers
abbrev pub kind_of : Sym → ℕ
kind_of (Var v) = 1
kind_of (Int i) = 2
kind_of (Fun f n) = 3 + n

abbrev pub bits_of : Sym → ℕ
bits_of (Var v) = v
bits_of (Int i) = cast_unsigned w64 i
bits_of (Fun f n) = f.0

abbrev pub folded : ℕ → ℕ
folded bits = bit_xor bits (bits / 2 ^ 33)

-- 64 bits, mixed as by the last step of MurmurHash3 (fmix64, by A. Appleby, in the public domain)
abbrev pub shuffled : ℕ → ℕ
shuffled bits = folded ((folded ((folded bits * 0xff51_afd7_ed55_8ccd) % 2 ^ 64) * 0xc4ce_b9fe_1a85_ec53) % 2 ^ 64)

-- A mark with one more symbol. The mixing alone can be undone by calculation, which would tell what symbol leads to a mark; so the
-- symbol's bits are added once more behind it.
unfoldable pub mixed : ℕ → Sym → ℕ
mixed mark symbol = (shuffled (bit_xor ((mark + kind_of symbol) % 2 ^ 64) (bits_of symbol)) + bits_of symbol) % 2 ^ 64

abbrev pub with_term : ℕ → Term → ℕ
with_term mark t = fold mixed mark (spell t)
