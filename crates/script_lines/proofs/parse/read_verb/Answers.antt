use Rattle.std.proofs.Common.{◌≡◌, codes, refl, arith}
use Rattle.std.proofs.lemmas.Grind.{common_steps}
use Rattle.script_lines.proofs.Walks.{four, five, six, eight}
use Rattle.script_lines.proofs.parse.read_verb.Goals as goal

-- each word by its bytes
pub returns-in-get : goal.returns-in-get
returns-in-get c = let is : c.args.word.now ≡ codes "get" = grind (arith, common_steps) in rw is refl

pub returns-in-set : goal.returns-in-set
returns-in-set c = let is : c.args.word.now ≡ codes "set" = grind (arith, common_steps) in rw is refl

pub returns-in-try : goal.returns-in-try
returns-in-try c = let is : c.args.word.now ≡ codes "try" = grind (arith, common_steps) in rw is refl

pub returns-in-row : goal.returns-in-row
returns-in-row c = let is : c.args.word.now ≡ codes "row" = grind (arith, common_steps) in rw is refl

pub returns-in-sub : goal.returns-in-sub
returns-in-sub c = let is : c.args.word.now ≡ codes "sub" = grind (arith, common_steps) in rw is refl

pub returns-in-off : goal.returns-in-off
returns-in-off c = let is : c.args.word.now ≡ codes "off" = grind (arith, common_steps) in rw is refl

pub returns-in-open : goal.returns-in-open
returns-in-open c =
    let is : c.args.word.now ≡ codes "open" = four c.args.word.now 111 112 101 110 (omega arith) (grind (arith, common_steps)) (grind (arith, common_steps)) (grind (arith, common_steps)) (grind (arith, common_steps)) in
    rw is refl

pub returns-in-grab : goal.returns-in-grab
returns-in-grab c =
    let is : c.args.word.now ≡ codes "grab" = four c.args.word.now 103 114 97 98 (omega arith) (grind (arith, common_steps)) (grind (arith, common_steps)) (grind (arith, common_steps)) (grind (arith, common_steps)) in
    rw is refl

pub returns-in-next : goal.returns-in-next
returns-in-next c =
    let is : c.args.word.now ≡ codes "next" = four c.args.word.now 110 101 120 116 (omega arith) (grind (arith, common_steps)) (grind (arith, common_steps)) (grind (arith, common_steps)) (grind (arith, common_steps)) in
    rw is refl

pub returns-in-menu : goal.returns-in-menu
returns-in-menu c =
    let is : c.args.word.now ≡ codes "menu" = four c.args.word.now 109 101 110 117 (omega arith) (grind (arith, common_steps)) (grind (arith, common_steps)) (grind (arith, common_steps)) (grind (arith, common_steps)) in
    rw is refl

pub returns-in-told : goal.returns-in-told
returns-in-told c =
    let is : c.args.word.now ≡ codes "told" = four c.args.word.now 116 111 108 100 (omega arith) (grind (arith, common_steps)) (grind (arith, common_steps)) (grind (arith, common_steps)) (grind (arith, common_steps)) in
    rw is refl

pub returns-in-free : goal.returns-in-free
returns-in-free c =
    let is : c.args.word.now ≡ codes "free" = four c.args.word.now 102 114 101 101 (omega arith) (grind (arith, common_steps)) (grind (arith, common_steps)) (grind (arith, common_steps)) (grind (arith, common_steps)) in
    rw is refl

pub returns-in-take : goal.returns-in-take
returns-in-take c =
    let is : c.args.word.now ≡ codes "take" = four c.args.word.now 116 97 107 101 (omega arith) (grind (arith, common_steps)) (grind (arith, common_steps)) (grind (arith, common_steps)) (grind (arith, common_steps)) in
    rw is refl

pub returns-in-close : goal.returns-in-close
returns-in-close c =
    let is : c.args.word.now ≡ codes "close" = five c.args.word.now 99 108 111 115 101 (omega arith) (grind (arith, common_steps)) (grind (arith, common_steps)) (grind (arith, common_steps)) (grind (arith, common_steps)) (grind (arith, common_steps)) in
    rw is refl

pub returns-in-range : goal.returns-in-range
returns-in-range c =
    let is : c.args.word.now ≡ codes "range" = five c.args.word.now 114 97 110 103 101 (omega arith) (grind (arith, common_steps)) (grind (arith, common_steps)) (grind (arith, common_steps)) (grind (arith, common_steps)) (grind (arith, common_steps)) in
    rw is refl

pub returns-in-query : goal.returns-in-query
returns-in-query c =
    let is : c.args.word.now ≡ codes "query" = five c.args.word.now 113 117 101 114 121 (omega arith) (grind (arith, common_steps)) (grind (arith, common_steps)) (grind (arith, common_steps)) (grind (arith, common_steps)) (grind (arith, common_steps)) in
    rw is refl

pub returns-in-alloc : goal.returns-in-alloc
returns-in-alloc c =
    let is : c.args.word.now ≡ codes "alloc" = five c.args.word.now 97 108 108 111 99 (omega arith) (grind (arith, common_steps)) (grind (arith, common_steps)) (grind (arith, common_steps)) (grind (arith, common_steps)) (grind (arith, common_steps)) in
    rw is refl

pub returns-in-queue : goal.returns-in-queue
returns-in-queue c =
    let is : c.args.word.now ≡ codes "queue" = five c.args.word.now 113 117 101 117 101 (omega arith) (grind (arith, common_steps)) (grind (arith, common_steps)) (grind (arith, common_steps)) (grind (arith, common_steps)) (grind (arith, common_steps)) in
    rw is refl

pub returns-in-state : goal.returns-in-state
returns-in-state c =
    let is : c.args.word.now ≡ codes "state" = five c.args.word.now 115 116 97 116 101 (omega arith) (grind (arith, common_steps)) (grind (arith, common_steps)) (grind (arith, common_steps)) (grind (arith, common_steps)) (grind (arith, common_steps)) in
    rw is refl

pub returns-in-begin : goal.returns-in-begin
returns-in-begin c =
    let is : c.args.word.now ≡ codes "begin" = five c.args.word.now 98 101 103 105 110 (omega arith) (grind (arith, common_steps)) (grind (arith, common_steps)) (grind (arith, common_steps)) (grind (arith, common_steps)) (grind (arith, common_steps)) in
    rw is refl

pub returns-in-unsub : goal.returns-in-unsub
returns-in-unsub c =
    let is : c.args.word.now ≡ codes "unsub" = five c.args.word.now 117 110 115 117 98 (omega arith) (grind (arith, common_steps)) (grind (arith, common_steps)) (grind (arith, common_steps)) (grind (arith, common_steps)) (grind (arith, common_steps)) in
    rw is refl

pub returns-in-audit : goal.returns-in-audit
returns-in-audit c =
    let is : c.args.word.now ≡ codes "audit" = five c.args.word.now 97 117 100 105 116 (omega arith) (grind (arith, common_steps)) (grind (arith, common_steps)) (grind (arith, common_steps)) (grind (arith, common_steps)) (grind (arith, common_steps)) in
    rw is refl

pub returns-in-buffer : goal.returns-in-buffer
returns-in-buffer c =
    let is : c.args.word.now ≡ codes "buffer" = six c.args.word.now 98 117 102 102 101 114 (omega arith) (grind (arith, common_steps)) (grind (arith, common_steps)) (grind (arith, common_steps)) (grind (arith, common_steps)) (grind (arith, common_steps)) (grind (arith, common_steps)) in
    rw is refl

pub returns-in-cancel : goal.returns-in-cancel
returns-in-cancel c =
    let is : c.args.word.now ≡ codes "cancel" = six c.args.word.now 99 97 110 99 101 108 (omega arith) (grind (arith, common_steps)) (grind (arith, common_steps)) (grind (arith, common_steps)) (grind (arith, common_steps)) (grind (arith, common_steps)) (grind (arith, common_steps)) in
    rw is refl

pub returns-in-reinit : goal.returns-in-reinit
returns-in-reinit c =
    let is : c.args.word.now ≡ codes "reinit" = six c.args.word.now 114 101 105 110 105 116 (omega arith) (grind (arith, common_steps)) (grind (arith, common_steps)) (grind (arith, common_steps)) (grind (arith, common_steps)) (grind (arith, common_steps)) (grind (arith, common_steps)) in
    rw is refl

pub returns-in-complete : goal.returns-in-complete
returns-in-complete c =
    let is : c.args.word.now ≡ codes "complete" = eight c.args.word.now 99 111 109 112 108 101 116 101 (omega arith) (grind (arith, common_steps)) (grind (arith, common_steps)) (grind (arith, common_steps)) (grind (arith, common_steps)) (grind (arith, common_steps)) (grind (arith, common_steps)) (grind (arith, common_steps)) (grind (arith, common_steps)) in
    rw is refl
