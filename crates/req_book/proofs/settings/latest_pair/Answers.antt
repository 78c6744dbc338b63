use Rattle.std.proofs.Common.{◌≡◌, sym, ◌∙◌, ◌++◌, ap}
use Rattle.std.proofs.Math.Path.{ap₂}
use Rattle.std.specs.Option.{option_or}
use Rattle.ctrl_types.specs.Pairs.{last_value}
use Rattle.req_book.specs.Requests.{pair_of}
use Rattle.req_book.proofs.SettingLemmas.{last_append}
use Rattle.req_book.proofs.settings.latest_pair.Goals as goal

pub returns-in_err-value : goal.returns-in_err-value
returns-in_err-value c =
    let given : option_or c.last_value.result c.last_value-2.result ≡ last_value (c.args.pairs.now ++ c.args.more.now) c.args.control =
    ap₂ option_or c.last_value.ensures c.last_value-2.ensures ∙ sym (last_append c.args.pairs.now c.args.more.now c.args.control) in
    c.from_residual.ensures ∙ ap (pair_of c.args.control) (c.in_err-value.ensures ∙ given)

pub returns : goal.returns
returns c =
    let given : option_or c.last_value.result c.last_value-2.result ≡ last_value (c.args.pairs.now ++ c.args.more.now) c.args.control =
    ap₂ option_or c.last_value.ensures c.last_value-2.ensures ∙ sym (last_append c.args.pairs.now c.args.more.now c.args.control) in
    ap (pair_of c.args.control) (c.in_ok-value.ensures ∙ given)
