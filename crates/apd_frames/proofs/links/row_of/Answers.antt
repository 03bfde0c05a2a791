use Rattle.std.proofs.Common.{ℕ, ap, refl}
use Rattle.apd_frames.specs.Links.{Link, instance_of}
use Rattle.apd_frames.proofs.links.row_of.Goals as goal

pub returns : goal.returns
returns c =
    let with_clause : ℕ → Link = λ k. record {
      box_no = c.args.link.now.box_no;
      depth = c.args.link.now.depth;
      clause = k;
      instance = instance_of c.args.link.now.head c.args.link.now.goals.now;
      done = c.args.link.now.done;
      point = c.args.link.now.point;
      around = c.args.link.now.around;
    } in
    record { link = ap with_clause c.in_ok-clause.ensures; from = refl; goals = refl }
