use Rattle.std.proofs.Common.{◌∙◌, [], ap, sym, length, Ok}
use Rattle.std.specs.Prelude.{map, option_to_list}
use Rattle.apd_talk.specs.Speech.{one, plain}
use Rattle.apd_talk.proofs.Speaking.{Says-as, Says-nothing}
use Rattle.apd_session.specs.Demo.{outcome_of}
use Rattle.apd_session.proofs.Demos.{outcome_named}
use Rattle.apd_session.proofs.demo.say_outcome.Goals as goal

pub say-requires : goal.say-requires
say-requires g c = outcome_named (length c.args.voice.now.log.names) c.args.nodes c.args.voice.now.log.entries.list c.in-Some.entry (sym (ap option_to_list c.in-Some.is) ∙ (rw c.log.ensures at c.outcome_of.ensures))

pub returns-in-Some : goal.returns-in-Some
returns-in-Some g c =
    let is = sym (ap option_to_list c.in-Some.is) ∙ (rw c.log.ensures at c.outcome_of.ensures) in
    Says-as (one c.in-Some.entry) (λ ops names. map (plain ops names) (outcome_of c.args.nodes c.args.voice.now.log.entries.list)) _ _ c.say.result (λ ops names. ap (map (plain ops names)) is) c.say.ensures

pub returns-in-None : goal.returns-in-None
returns-in-None g c =
    let is = sym (ap option_to_list c.in-None.is) ∙ (rw c.log.ensures at c.outcome_of.ensures) in
    Says-as (λ ops names. []) (λ ops names. map (plain ops names) (outcome_of c.args.nodes c.args.voice.now.log.entries.list)) _ _ (Ok (tt {0})) (λ ops names. ap (map (plain ops names)) is)
    (Says-nothing c.args.voice.now (tt {0}))
