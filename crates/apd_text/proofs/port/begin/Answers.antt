use Rattle.std.proofs.Common.{◌≡◌, ◌-◌, List, ℕ, [], ◌∷◌, ◌++◌, length, drop, decimal, slice_set, ap, ◌∙◌, arith, refl, append_assoc, length-set, rules}
use Rattle.apd_text.specs.Lines.{port_name}
use Rattle.apd_text.proofs.Fronts.{ten_digits, spaced}
use Rattle.apd_text.proofs.port.begin.Goals as goal

pub write_digits-depth-requires : goal.write_digits-depth-requires
write_digits-depth-requires c =
    let few = ten_digits c.args.event.now.depth (omega arith) in
    (omega (arith, few), omega (arith, c.room_of.ensures.length))

pub overflow_sub-space : goal.overflow_sub-space
overflow_sub-space c =
    let few = ten_digits c.args.event.now.depth (omega arith) in
    omega (arith, few, c.write_digits-depth.ensures.start)

pub write_digits-number-requires : goal.write_digits-number-requires
write_digits-number-requires c =
    let d = c.write_digits-depth in
    let few = ten_digits c.args.event.now.depth (omega arith) in
    let little = ten_digits c.args.event.now.box_no (omega arith) in
    (omega (arith, few, little, d.ensures.start), omega (arith, length-set d.new.buf (d.result - 1) 32, d.auto.buf, c.room_of.ensures.length, d.ensures.start))

pub returns-clause-within : goal.returns-clause-within
returns-clause-within c =
    let d = c.write_digits-depth in
    let n = c.write_digits-number in
    let few = ten_digits c.args.event.now.depth (omega arith) in
    let added : c.extend.new.self ≡ c.clear.new.self ++ n.new.buf = search rules in
    let all : c.extend.new.self ≡ n.new.buf = added ∙ ap (λ (l : List ℕ). l ++ n.new.buf) c.clear.ensures in
    omega (arith, few, ap (length {A = ℕ}) all, n.ensures.start, d.ensures.start, n.auto.buf, length-set d.new.buf (d.result - 1) 32, d.auto.buf, c.room_of.ensures.length)

pub returns-clause-front : goal.returns-clause-front
returns-clause-front c =
    let d = c.write_digits-depth in
    let n = c.write_digits-number in
    let few = ten_digits c.args.event.now.depth (omega arith) in
    let named : List ℕ = 32 ∷ (port_name c.args.event.now.port ++ 58 ∷ 32 ∷ []) in
    let name : drop d.result d.new.buf ≡ decimal c.args.event.now.depth ++ named =
    d.ensures.written ∙ ap (λ (l : List ℕ). decimal c.args.event.now.depth ++ l) c.room_of.ensures.name in
    let front : drop (d.result - 1) (slice_set d.new.buf (d.result - 1) 32) ≡ 32 ∷ (decimal c.args.event.now.depth ++ named) =
    spaced d.new.buf _ _ d.result (omega (arith, few, d.ensures.start)) (omega (arith, d.auto.buf, c.room_of.ensures.length, d.ensures.start)) name refl in
    let added : c.extend.new.self ≡ c.clear.new.self ++ n.new.buf = search rules in
    let all : c.extend.new.self ≡ n.new.buf = added ∙ ap (λ (l : List ℕ). l ++ n.new.buf) c.clear.ensures in
    simp append_assoc (ap (drop n.result) all ∙ n.ensures.written ∙ ap (λ (l : List ℕ). decimal c.args.event.now.box_no ++ l) front)
