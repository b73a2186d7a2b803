use Rattle.std.proofs.Common.{◌∷◌, ◌++◌, decimal, codes, get_or, ap, ◌∙◌}
use Rattle.bx_advice.specs.declared.{limit.Limit.TheVariants.Bytes, limit.TheConstants.Limit.ALL}
use Rattle.bx_advice.specs.Limits.{limit_name}
use Rattle.bx_record.specs.Configs.{limit_word, options_word, setting}
use Rattle.bx_record.proofs.Configs.{first_word, limit_added, limits_added, next_word}
use Rattle.bx_record.proofs.config.config_text.Goals as goal

pub loop-limit-init : goal.loop-limit-init
loop-limit-init c =
    let config = c.args.config.now in
    let shards = first_word {word = setting (codes "shards") (decimal config.shards)} (c.in_ok-push_number.ensures ∙ ap (λ t. t ++ decimal config.shards) (c.in_ok-extend_from_slice.ensures.items ∙ ap (λ t. t ++ codes "shards=") c.in_ok-text.ensures.items)) in
    let timeout = next_word (setting (codes "timeout") (decimal config.timeout)) shards c.in_ok-push_time.ensures in
    let interval = next_word (setting (codes "interval") (decimal config.interval)) timeout c.in_ok-push_time-2.ensures in
    let max_interval = next_word (setting (codes "max_interval") (decimal config.max_interval)) interval c.in_ok-push_time-3.ensures in
    next_word (setting (codes "options") (options_word config.ride config.anonymous)) max_interval
    (c.in_ok-push_setting.ensures ∙ ap (λ value. c.push_time-3.new.text.items ++ 32 ∷ setting (codes "options") value) c.options_word.ensures)

pub loop-limit-preserved : goal.loop-limit-preserved
loop-limit-preserved c =
    let limit = get_or ALL c.loop-limit.limit-index Bytes in
    limit_added c.args.config.now c.loop-limit.limit-index c.loop-limit-test.true c.loop-limit.invariant
    (c.in_ok-push_limit.ensures ∙ ap (λ n. c.loop-limit.text.items ++ 32 ∷ setting (limit_name limit) (limit_word limit n)) c.get.ensures)

pub returns : goal.returns
returns c = c.in_ok-push.ensures.items ∙ limits_added c.args.config.now c.loop-limit.limit-index c.loop-limit-test.false c.loop-limit.invariant
