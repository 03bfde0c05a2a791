use Rattle.std.proofs.Common.{◌∙◌, ◌+◌, ap, length, unwrap_or}
use Rattle.apd_term.proofs.Order.{place_of-found}
use Rattle.apd_term.proofs.canonical.place_of.Goals as goal

pub returns : goal.returns
returns c =
    ap (λ n. n + 1) c.unwrap_or.ensures
    ∙ ap (λ n. unwrap_or c.get_index_of.result n + 1) c.len-count.ensures.len
    ∙ ap (λ o. unwrap_or o (length c.args.order.now.keys) + 1) c.get_index_of.ensures.index
    ∙ place_of-found c.args.order.now.keys c.args.v
