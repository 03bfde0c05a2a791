-- The line of a port, whose front is written from its end.
use Rattle.std.proofs.Common.{◌≡◌, ℕ, ◌+◌, ◌-◌, ◌^◌, ◌<◌, ◌≤◌, List, [], ◌∷◌, ◌++◌, length, drop, set, ap, ◌∙◌, arith, decimal, length-append}
use Rattle.std.specs.Prelude.{codes}
use Rattle.std.proofs.lemmas.Fmt.{length-decimal-le}
use Rattle.std.proofs.lemmas.List.{drop-append-le, drop-set}
use Rattle.apd_ops.specs.Table.{Table}
use Rattle.apd_ports.specs.declared.event.Event.{Event}
use Rattle.apd_text.specs.Lines.{goal_text, port_name, port_text}

pub ten_digits : (n : ℕ) → n < 2 ^ 32 → length (decimal n) ≤ 10
ten_digits n small = length-decimal-le 10 n (omega arith) (omega (arith, small)) (omega (arith, small))

-- what a room holds where a space was put before a place of it
pub spaced : (room under rest : List ℕ) (at : ℕ) → 0 < at → at ≤ length room →
    drop at room ≡ rest → under ≡ set room (at - 1) 32 → drop (at - 1) under ≡ 32 ∷ rest
spaced room under rest at some within behind is =
    let e : at - 1 + 1 ≡ at = omega (arith, some) in
    rw (is, drop-set room (at - 1) 32 (omega (arith, some, within)), e, behind)

-- the front with the goal behind it and a newline
pub port_lined : (ops : Table) (names : List (List ℕ)) (e : Event) (begun put all : List ℕ) (from : ℕ) → from ≤ length begun →
    drop from begun ≡ decimal e.box_no ++ codes " " ++ decimal e.depth ++ codes " " ++ port_name e.port ++ codes ": " →
    put ≡ begun ++ goal_text ops names e.atom → all ≡ put ++ 10 ∷ [] → drop from all ≡ port_text ops names e
unfolding port_text
port_lined ops names e begun put all from within front goal end =
    ap (drop from) end
    ∙ drop-append-le from put (10 ∷ []) (let l = ap (length {A = ℕ}) goal in let k = length-append begun (goal_text ops names e.atom) in omega (arith, within, l, k))
    ∙ ap (λ (x : List ℕ). drop from x ++ 10 ∷ []) goal
    ∙ ap (λ (x : List ℕ). x ++ 10 ∷ []) (drop-append-le from begun (goal_text ops names e.atom) within ∙ ap (λ (x : List ℕ). x ++ goal_text ops names e.atom) front)
