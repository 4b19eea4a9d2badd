use Rattle.std.proofs.Common.{◌≡◌, ◌++◌, ◌∷◌, [], List, sym, ◌∙◌, ap, ap₂}
use Rattle.rtrb.specs.Ring.{SameConsumer, SameProducer, known_items, sent}
use Rattle.rtrb.specs.declared.consumer.Consumer.{Consumer}
use Rattle.rtrb.specs.declared.producer.Producer.{Producer}
use Rattle.server_run.specs.declared.entry.Entry.{Entry}
use Rattle.server_jobs.specs.declared.note.Note.{Note}
use Rattle.server_jobs.specs.declared.note.Note.TheVariants.{Back}
use Rattle.server_acceptor.proofs.BesideSteps.{still_pair}
use Rattle.server_acceptor.proofs.parting.pass_back.Goals as goal

producer_trans : {T A P : Type 0} (a b c : Producer T A P) → SameProducer a b → SameProducer b c → SameProducer a c
producer_trans a b c p q = ((q.0.0 ∙ p.0.0, q.0.1 ∙ p.0.1, q.0.2 ∙ p.0.2, q.0.3 ∙ p.0.3), q.1 ∙ p.1)

consumer_trans : {T A P : Type 0} (a b c : Consumer T A P) → SameConsumer a b → SameConsumer b c → SameConsumer a c
consumer_trans a b c p q = ((q.0.0 ∙ p.0.0, q.0.1 ∙ p.0.1, q.0.2 ∙ p.0.2, q.0.3 ∙ p.0.3), q.1 ∙ p.1)

cancel : {X : Type 0} (xs ys zs : List X) → xs ++ ys ≡ xs ++ zs → ys ≡ zs
cancel [] ys zs e = e
cancel (x ∷ xs) ys zs e = cancel xs ys zs (cc)

only_one : {X : Type 0} (xs known rest : List X) (n b : X) → xs ++ known ≡ xs ++ b ∷ [] → known ≡ n ∷ rest → n ≡ b
only_one xs known rest n b e first = let only = cancel xs known (b ∷ []) e in cc

back_same : {L : Type 0} (note : Note L) (x y : Entry L) → note ≡ Back x → note ≡ Back y → x ≡ y
back_same note x y p q = cc

pub returns : goal.returns
returns g c =
    let first = c.slots_beside.ensures in
    let then_these = c.slots_beside-2.ensures in
    let note = Back c.args.entry in
    let before = c.args.notes.now in
    let ends = producer_trans before c.push_reserved.new.self c.slots_beside-2.new.producer
    (producer_trans before c.slots_beside.new.self c.push_reserved.new.self first.looked.0 c.push_reserved.ensures.ring) then_these.producer.0 in
    let takes = consumer_trans c.args.consumer.now c.slots_beside-2.new.self c.pop_known.new.self
    (consumer_trans c.args.consumer.now c.slots_beside.new.consumer c.slots_beside-2.new.self first.consumer.0 then_these.looked.0) c.pop_known.ensures.ring in
    let had = then_these.looked.1 ∙ first.consumer.1 in
    let went = then_these.producer.1 ∙ c.push_reserved.ensures.sent.0 ∙ ap (λ xs. xs ++ note ∷ []) first.looked.1 in
    let is = only_one (sent before) (known_items c.slots_beside-2.new.self) (known_items c.pop_known.new.self) c.pop_known.result note
    (ap (λ xs. xs ++ known_items c.slots_beside-2.new.self) (sym (had ∙ c.requires.all)) ∙ then_these.fifo ∙ went) c.pop_known.ensures.received.1 in
    record {
      same = back_same c.pop_known.result c.in-Back.entry c.args.entry c.in-Back.is is;
      notes = ends;
      consumer = takes;
      pair = still_pair before c.slots_beside-2.new.producer c.args.consumer.now c.pop_known.new.self c.requires.pair ends takes;
      sent = went;
      received = c.pop_known.ensures.received.0 ∙ ap₂ (λ xs n. xs ++ n ∷ []) had is;
    }
