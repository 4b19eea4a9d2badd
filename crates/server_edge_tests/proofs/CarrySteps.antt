-- One trip behind another.
use Rattle.std.proofs.Common.{◌≡◌, [], refl, ◌∙◌, ap, arith, sum_by}
use Rattle.rtrb.specs.declared.AnyItems.{AnyItems}
use Rattle.rtrb.specs.declared.consumer.Consumer.{Consumer}
use Rattle.rtrb.specs.declared.producer.Producer.{Producer}
use Rattle.std.specs.declared.alloc.Global.{Global}
use Rattle.server_edge_tests.specs.Carrying.{Carries}
use Rattle.server_jobs.specs.Cards.{of_note, of_waiting}
use Rattle.server_jobs.specs.Joins.{Accounts}
use Rattle.server_jobs.specs.declared.handed.Handed.{Handed}
use Rattle.server_jobs.specs.declared.note.Note.{Note}
use Rattle.server_jobs.specs.declared.parcel.Parcel.{Parcel}
use Rattle.service_core.specs.Link.{Identity}

pub carries_none : {L : Type 0} (identity : L → Identity) (inward : Consumer (Parcel L) Global AnyItems) (outward : Producer (Note L) Global AnyItems)
    → Carries identity inward outward inward outward
carries_none identity inward outward = record {
  same_inward = ((refl, refl, refl, refl), refl);
  same_outward = ((refl, refl, refl, refl), refl);
  once = λ h. refl;
}

pub carries_more : {L : Type 0} (identity : L → Identity) (i1 i2 i3 : Consumer (Parcel L) Global AnyItems) (o1 o2 o3 : Producer (Note L) Global AnyItems)
    → Carries identity i1 o1 i2 o2 → Carries identity i2 o2 i3 o3 → Carries identity i1 o1 i3 o3
carries_more identity i1 i2 i3 o1 o2 o3 k l = record {
  same_inward = (
    (
      l.same_inward.0.0 ∙ k.same_inward.0.0,
      l.same_inward.0.1 ∙ k.same_inward.0.1,
      l.same_inward.0.2 ∙ k.same_inward.0.2,
      l.same_inward.0.3 ∙ k.same_inward.0.3,
    ),
    l.same_inward.1 ∙ k.same_inward.1,
  );
  same_outward = (
    (
      l.same_outward.0.0 ∙ k.same_outward.0.0,
      l.same_outward.0.1 ∙ k.same_outward.0.1,
      l.same_outward.0.2 ∙ k.same_outward.0.2,
      l.same_outward.0.3 ∙ k.same_outward.0.3,
    ),
    l.same_outward.1 ∙ k.same_outward.1,
  );
  once = λ h. omega (arith, k.once h, l.once h);
}

pub accounts_of : {L F D : Type 0} (identity : L → Identity) (inward : Consumer (Parcel L) Global AnyItems) (outward : Producer (Note L) Global AnyItems)
    (out : Handed L F D) → Carries identity inward outward out.parcels out.notes → out.owed.items ≡ [] → out.rest.items ≡ []
    → Accounts identity inward outward out
accounts_of identity inward outward out k owed rest = record {
  same_inward = k.same_inward;
  same_outward = k.same_outward;
  once = λ h.
      let o = ap (sum_by (of_note identity h)) owed in
      let r = ap (sum_by (of_waiting identity h)) rest in
      omega (arith, k.once h, o, r);
}
