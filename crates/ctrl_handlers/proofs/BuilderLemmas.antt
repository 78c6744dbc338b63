-- What a builder may do where nothing refuses it, and the closures of one more cluster.
use Rattle.std.proofs.Common.{◌≡◌, ℕ, ℤ, ◌<◌, Bool, true, false, not, if◌then◌else◌, nat_le, nat_lt, List, [], ◌∷◌, ◌++◌, length, None, Some, Option, Result, Ok, Err, refl, sym, ap, ◌∙◌, arith, MatchResult, IfOk, IfErr, OnOk, OnErr}
use Rattle.std.proofs.lemmas.List.{map_push}
use Rattle.std.specs.declared.alloc.AllocError.{AllocError}
use Rattle.ctrl_calls.specs.declared.relation.Relations.{Relations}
use Rattle.ctrl_handlers.specs.ClusterData.{ClusterData}
use Rattle.std.proofs.lemmas.Bool.Decides.{nat_tests}
use Rattle.ctrl_handlers.specs.declared.fault.PlanFault.{PlanFault}
use Rattle.ctrl_handlers.specs.declared.fault.PlanFault.TheVariants.{UnknownNumber, Limit, Memory}
use Rattle.menu_items.specs.declared.item.MenuItem.{MenuItem}
use Rattle.menu_items.specs.declared.name.TheConstants.{MAX_MENU_NAME}
use Rattle.ctrl_handlers.specs.Plan.{PlanData, control, with_item, with_cluster, all_calls}
use Rattle.menu_items.specs.Places.{takes_name, takes_number}
use Rattle.ctrl_handlers.specs.Builder.{name_refusal, number_refusal, IsRefusedBy}

-- where nothing refuses a name, the control is there and takes it
name_by : (none takes long : Bool) → (if none then Some UnknownNumber else if not takes then Some UnknownNumber else if long then Some Limit else None) ≡ None → (none ≡ false) × (takes ≡ true)
name_by true takes long is = cc
name_by false false long is = cc
name_by false true true is = cc
name_by false true false is = (refl, refl)

pub may_name : (plan : PlanData) (c index : ℕ) (name : List ℕ) → name_refusal plan c index name ≡ None → (c < length plan.controls) × (takes_name (control plan c) index ≡ true)
may_name plan c index name is =
    let each = name_by (nat_le (length plan.controls) c) (takes_name (control plan c) index) (nat_lt MAX_MENU_NAME (length name)) is in
    (grind (arith, nat_tests, each.0), each.1)

-- the same of a number
number_by : (none takes : Bool) → (if none then Some UnknownNumber else if not takes then Some UnknownNumber else None) ≡ None → (none ≡ false) × (takes ≡ true)
number_by true takes is = cc
number_by false false is = cc
number_by false true is = (refl, refl)

pub may_number : (plan : PlanData) (c index : ℕ) → number_refusal plan c index ≡ None → (c < length plan.controls) × (takes_number (control plan c) index ≡ true)
may_number plan c index is =
    let each = number_by (nat_le (length plan.controls) c) (takes_number (control plan c) index) is in
    (grind (arith, nat_tests, each.0), each.1)

-- where nothing refuses an item, only memory can be wanting
pub set_ok : (old new : PlanData) (c index : ℕ) (item : MenuItem) (refusal : Option PlanFault) (r : Result (Unit {0}) PlanFault) → refusal ≡ None
    → MatchResult r (λ _. new ≡ with_item old c index item) (λ fault. (fault ≡ Memory) × (new ≡ old)) → IfOk r (λ _. (refusal ≡ None) × (new ≡ with_item old c index item))
set_ok old new c index item refusal (Ok done) passes is = (passes, is)
set_ok old new c index item refusal (Err fault) passes is = tt

pub set_err : (old new : PlanData) (c index : ℕ) (item : MenuItem) (refusal : Option PlanFault) (r : Result (Unit {0}) PlanFault) → refusal ≡ None
    → MatchResult r (λ _. new ≡ with_item old c index item) (λ fault. (fault ≡ Memory) × (new ≡ old)) → IfErr r (λ fault. IsRefusedBy refusal fault × (new ≡ old))
set_err old new c index item refusal (Ok done) passes is = tt
set_err old new c index item refusal (Err fault) passes is = rw passes is

-- where nothing refuses a call, it may say that memory is wanting
pub for_memory : (refusal : Option PlanFault) → refusal ≡ None → IsRefusedBy refusal Memory
for_memory refusal passes = rw passes refl

-- the closures stay, where the clusters do
pub calls_stay : (old made new : PlanData) (r : Result (Unit {0}) AllocError) → OnOk r (new ≡ made) → OnErr r (new ≡ old) → all_calls old ≡ all_calls made → all_calls old ≡ all_calls new
calls_stay old made new (Ok done) is same stay = stay ∙ ap all_calls (sym is)
calls_stay old made new (Err e) is same stay = ap all_calls (sym same)

-- the same of a call that answers a number
pub calls_stay_at : (old made new : PlanData) (number : ℕ) (r : Result ℕ AllocError) → IfOk r (λ n. (n ≡ number) × (new ≡ made)) → OnErr r (new ≡ old) → all_calls old ≡ all_calls made
    → all_calls old ≡ all_calls new
calls_stay_at old made new number (Ok n) is same stay = stay ∙ ap all_calls (sym is.1)
calls_stay_at old made new number (Err e) is same stay = ap all_calls (sym same)

-- one more cluster and its closures
pub calls_more : (plan new : PlanData) (members : List ℕ) (manual : Option ℤ) (relations calls : Relations) (kept room after : List Relations) → kept ≡ all_calls plan → room ≡ kept
    → after ≡ room ++ calls ∷ [] → relations ≡ calls → new ≡ with_cluster plan members manual relations → after ≡ all_calls new
calls_more plan new members manual relations calls kept room after are same more by one =
    more ∙ ap (λ (all : List Relations). all ++ calls ∷ []) (same ∙ are) ∙ ap (λ (r : Relations). all_calls plan ++ r ∷ []) (sym by)
    ∙ sym (map_push (λ (k : ClusterData). k.calls) plan.clusters (record { members = members; manual = manual; calls = relations }))
    ∙ ap all_calls (sym one)
