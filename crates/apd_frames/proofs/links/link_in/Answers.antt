use Rattle.std.proofs.Common.{ℕ, ◌+◌, ◌∙◌, ap}
use Rattle.std.specs.List.{between}
use Rattle.std.proofs.lemmas.Slice.{between_is}
use Rattle.apd_frames.specs.Links.{Link, instance_of, with_goals}
use Rattle.apd_frames.proofs.links.link_in.Goals as goal

pub returns : goal.returns
returns c =
    let r = c.args.row in
    let goals = between r.from (r.from + r.goals) c.args.cells.now in
    let with_clause : ℕ → Link = λ k. record {
      box_no = r.box_no;
      depth = r.depth;
      clause = k;
      instance = instance_of (record { 0 = r.head }) goals;
      done = r.done;
      point = r.point;
      around = r.around;
    } in
    ap with_clause c.clause_in.ensures ∙ ap (with_goals r) (between_is c.args.cells.now r.from (r.from + r.goals))
