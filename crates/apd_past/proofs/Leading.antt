-- Where a cell of a store leads.
use Rattle.std.proofs.Common.{◌≡◌, ◌⊎◌, inl, inr, ℕ, ◌<◌, length, sym, ◌∙◌, subst}
use Rattle.apd_term.specs.declared.term.Sym.{Sym}
use Rattle.apd_term.specs.declared.term.Sym.TheVariants.{Var}
use Rattle.apd_cells.specs.declared.heap.Binding.TheVariants.{At}
use Rattle.apd_cells.specs.Heap.{IsVariable}
use Rattle.apd_cells.specs.Stored.{Stored}
use Rattle.apd_cells.specs.Store.{term_at, binding_of, symbol_at, IsSound}
use Rattle.apd_cells.proofs.Following.{rank, follows}

-- so far a walk along bindings has come
pub record Followed (s : Stored) (from at : ℕ) : Type 0 where
  pub inside : at < length s.cells
  pub same : term_at s at ≡ term_at s from
  pub start : (at ≡ from) ⊎ IsVariable (symbol_at s from)

pub record FollowedOn (s : Stored) (from at next : ℕ) : Type 0 where
  pub followed : Followed s from next
  pub smaller : rank (symbol_at s next) < rank (symbol_at s at)

pub follows_on : (s : Stored) (from at next v : ℕ) (x : Sym) → IsSound s → Followed s from at → x ≡ symbol_at s at → x ≡ Var v → binding_of s.trail v ≡ At next
    → FollowedOn s from at next
follows_on s from at next v x h f r e b =
    let here : symbol_at s at ≡ Var v = sym r ∙ e in
    let k = follows s.cells s.variables s.trail at v next h f.inside here b in
    record {
      followed = record {
        inside = k.inside;
        same = k.same ∙ f.same;
        start = inr (elim f.start [
          | inl q ↦ subst (λ z. IsVariable (symbol_at s z)) q (v, here)
          | inr w ↦ w
        ]);
      };
      smaller = k.smaller;
    }
