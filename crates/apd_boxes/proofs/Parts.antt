-- What is told of a box, read from its number.
use Rattle.std.proofs.Common.{◌≡◌, ℕ, ◌+◌, ◌*◌, ◌/◌, ◌%◌, ◌<◌, Bool, true, false, if◌then◌else◌, refl, ap, sym, ◌∙◌, arith}
use Rattle.std.proofs.lemmas.Bool.{eq-eqb, ne_eqb}
use Rattle.apd_ports.specs.declared.event.Port.{Port}
use Rattle.apd_ports.specs.declared.event.Port.TheVariants.{Call, Exit, Redo, Fail}
use Rattle.apd_boxes.specs.Ports.{completes, number_of_port, port_of_number, same_port}
use Rattle.apd_boxes.specs.Facts.{called_facts, facts_in, is_set, passed_facts}

abbrev bit : Bool → ℕ
bit true = 1
bit false = 0

bit-below : (b : Bool) → bit b < 2
bit-below true = omega arith
bit-below false = omega arith

part : (b : Bool) (k : ℕ) → (if b then k else 0) ≡ bit b * k
part true k = omega arith
part false k = omega arith

set_as : (n : ℕ) (b : Bool) → n % 2 ≡ bit b → is_set n ≡ b
set_as n true e = eq-eqb (n % 2) 1 e
set_as n false e = ne_eqb (n % 2) 1 (λ x. omega (arith, e, x))

-- the facts of a number with these parts
facts_as : (n size : ℕ) (whole user : Bool) (exits : ℕ) (complete : Bool) (last : Port)
    → n / 128 ≡ size → is_set (n / 64) ≡ whole → is_set (n / 32) ≡ user → n / 8 % 4 ≡ exits → is_set (n / 4) ≡ complete → port_of_number (n % 4) ≡ last
    → facts_in n ≡ record { size = size; is_whole = whole; is_user = user; exits = exits; complete = complete; last = last }
facts_as n size whole user exits complete last a b c d e f =
    ap (λ x. record { size = x; is_whole = is_set (n / 64); is_user = is_set (n / 32); exits = n / 8 % 4; complete = is_set (n / 4); last = port_of_number (n % 4) }) a
    ∙ ap (λ x. record { size = size; is_whole = x; is_user = is_set (n / 32); exits = n / 8 % 4; complete = is_set (n / 4); last = port_of_number (n % 4) }) b
    ∙ ap (λ x. record { size = size; is_whole = whole; is_user = x; exits = n / 8 % 4; complete = is_set (n / 4); last = port_of_number (n % 4) }) c
    ∙ ap (λ x. record { size = size; is_whole = whole; is_user = user; exits = x; complete = is_set (n / 4); last = port_of_number (n % 4) }) d
    ∙ ap (λ x. record { size = size; is_whole = whole; is_user = user; exits = exits; complete = x; last = port_of_number (n % 4) }) e
    ∙ ap (λ x. record { size = size; is_whole = whole; is_user = user; exits = exits; complete = complete; last = x }) f

pub called_in : (s : ℕ) (user whole : Bool) → facts_in (s * 128 + (if user then 32 else 0) + (if whole then 64 else 0)) ≡ called_facts s user whole
called_in s user whole =
    let n : ℕ = s * 128 + (if user then 32 else 0) + (if whole then 64 else 0) in
    let u = bit-below user in
    let w = bit-below whole in
    let is : n ≡ s * 128 + bit user * 32 + bit whole * 64 = ap (λ k. s * 128 + k + (if whole then 64 else 0)) (part user 32) ∙ ap (λ k. s * 128 + bit user * 32 + k) (part whole 64) in
    let a : n / 128 ≡ s = omega (arith, is, u, w) in
    let b : n / 64 % 2 ≡ bit whole = omega (arith, is, u, w) in
    let c : n / 32 % 2 ≡ bit user = omega (arith, is, u, w) in
    let d : n / 8 % 4 ≡ 0 = omega (arith, is, u, w) in
    let e : n / 4 % 2 ≡ bit false = omega (arith, is, u, w) in
    let f : n % 4 ≡ 0 = omega (arith, is, u, w) in
    facts_as n s whole user 0 false Call a (set_as (n / 64) whole b) (set_as (n / 32) user c) d (set_as (n / 4) false e) (ap port_of_number f)

failed_in : (n : ℕ) → facts_in (n / 8 * 8 + 7) ≡ passed_facts Fail (facts_in n)
failed_in n =
    let m : ℕ = n / 8 * 8 + 7 in
    let x : m / 8 ≡ n / 8 = omega arith in
    let c : m / 32 ≡ n / 32 = omega (arith, x) in
    let b : m / 64 ≡ n / 64 = omega (arith, c) in
    let a : m / 128 ≡ n / 128 = omega (arith, b) in
    let e : m / 4 % 2 ≡ bit true = omega arith in
    let f : m % 4 ≡ 3 = omega arith in
    facts_as m (n / 128) (is_set (n / 64)) (is_set (n / 32)) (n / 8 % 4) true Fail a (ap is_set b) (ap is_set c) (ap (λ k. k % 4) x) (set_as (m / 4) true e) (ap port_of_number f)

-- a box that passes a port other than Fail
passed_in : (n : ℕ) (port : Port) → number_of_port port < 3 → completes port (is_set (n / 4)) ≡ is_set (n / 4) → facts_in (n / 4 * 4 + number_of_port port) ≡ passed_facts port (facts_in n)
passed_in n port l same =
    let m : ℕ = n / 4 * 4 + number_of_port port in
    let y : m / 4 ≡ n / 4 = omega (arith, l) in
    let x : m / 8 ≡ n / 8 = omega (arith, y) in
    let c : m / 32 ≡ n / 32 = omega (arith, x) in
    let b : m / 64 ≡ n / 64 = omega (arith, c) in
    let a : m / 128 ≡ n / 128 = omega (arith, b) in
    let f : m % 4 ≡ number_of_port port = omega (arith, l) in
    facts_as m (n / 128) (is_set (n / 64)) (is_set (n / 32)) (n / 8 % 4) (completes port (is_set (n / 4))) port a (ap is_set b) (ap is_set c) (ap (λ k. k % 4) x) (ap is_set y ∙ sym same) (ap port_of_number f ∙ same_port port)

pub pass_failed : (n : ℕ) (port : Port) → number_of_port port ≡ 3 → facts_in (n / 8 * 8 + 7) ≡ passed_facts port (facts_in n)
pass_failed n Call e = absurd (omega (arith, e))
pass_failed n Exit e = absurd (omega (arith, e))
pass_failed n Redo e = absurd (omega (arith, e))
pass_failed n Fail e = failed_in n

pub pass_other : (n k : ℕ) (port : Port) → k ≡ number_of_port port → (k ≡ 3 → ⊥) → facts_in (n / 4 * 4 + k) ≡ passed_facts port (facts_in n)
pass_other n k Call e h = ap (λ j. facts_in (n / 4 * 4 + j)) e ∙ passed_in n Call (omega arith) refl
pass_other n k Exit e h = ap (λ j. facts_in (n / 4 * 4 + j)) e ∙ passed_in n Exit (omega arith) refl
pass_other n k Redo e h = ap (λ j. facts_in (n / 4 * 4 + j)) e ∙ passed_in n Redo (omega arith) refl
pass_other n k Fail e h = let no : ⊥ = h e in elim no [ ]
