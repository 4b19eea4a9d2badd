-- What a join knows, by the job's account and by the rings.
use Rattle.std.proofs.Common.{◌≡◌, ◌++◌, sum_by, ◌∙◌, ap, arith}
use Rattle.std.proofs.lemmas.List.Sums.{sum_by-append}
use Rattle.std.specs.declared.alloc.Global.{Global}
use Rattle.rtrb.specs.Ring.{received, sent, known_items}
use Rattle.rtrb.specs.declared.AnyItems.{AnyItems}
use Rattle.rtrb.specs.declared.consumer.Consumer.{Consumer}
use Rattle.rtrb.specs.declared.producer.Producer.{Producer}
use Rattle.service_core.specs.Link.{Identity}
use Rattle.server_jobs.specs.Cards.{of_note, of_parcel, of_waiting}
use Rattle.server_jobs.specs.Joins.{Accounts, EachOnce, IsBalanced}
use Rattle.server_jobs.specs.declared.handed.Handed.{Handed}
use Rattle.server_jobs.specs.declared.line.Joined.{Joined}
use Rattle.server_jobs.specs.declared.note.Note.{Note}
use Rattle.server_jobs.specs.declared.parcel.Parcel.{Parcel}

-- by the account, and by what is received and left in each ring being what was sent
pub each_once : {L F D : Type 0} (identity : L → Identity) (inward : Consumer (Parcel L) Global AnyItems) (outward : Producer (Note L) Global AnyItems)
    (out : Handed L F D) (j : Joined L F D) → Accounts identity inward outward out → IsBalanced identity inward outward
    → received j.handed.parcels ≡ received out.parcels → received j.handed.parcels ++ known_items j.handed.parcels ≡ sent j.parcels
    → sent j.handed.notes ≡ sent out.notes → received j.notes ++ known_items j.notes ≡ sent j.handed.notes
    → j.handed.owed ≡ out.owed → j.handed.rest ≡ out.rest → EachOnce identity j
each_once identity inward outward out j account balanced same_received to_it same_sent from_it owed rest h =
    let a = ap (sum_by (of_parcel identity h)) to_it in
    let b = sum_by-append (of_parcel identity h) (received j.handed.parcels) (known_items j.handed.parcels) in
    let c = ap (sum_by (of_parcel identity h)) same_received in
    let d = ap (sum_by (of_note identity h)) (from_it ∙ same_sent) in
    let e = sum_by-append (of_note identity h) (received j.notes) (known_items j.notes) in
    let o = ap (λ q. sum_by (of_note identity h) q.items) owed in
    let r = ap (λ q. sum_by (of_waiting identity h) q.items) rest in
    omega (arith, account.once h, balanced h, a, b, c, d, e, o, r)
