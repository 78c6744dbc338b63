use Rattle.std.proofs.Common.{refl}
use Rattle.req_book.specs.Objects.{requests_of_entries}
use Rattle.req_book.proofs.objects.Objects.new.Goals as goal

pub returns : goal.returns
unfolding requests_of_entries
returns c = rw c.new.ensures.empty refl
