use Rattle.std.proofs.Common.{rules}
use Rattle.req_book.proofs.SettingLemmas.{next_of_both}
use Rattle.req_book.proofs.settings.next_named.Goals as goal

pub returns : goal.returns
returns c = next_of_both c.args.pairs.now c.args.more.now c.args.from c.args.end c.next_of.result c.next_of-2.result (search rules) (search rules)
