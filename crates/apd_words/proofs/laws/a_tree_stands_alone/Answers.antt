use Rattle.apd_words.proofs.Alone.{words-alone}
use Rattle.apd_words.proofs.laws.a_tree_stands_alone.Goals as goal

pub returns : goal.returns
returns c = words-alone
