use Rattle.std.proofs.Common.{◌≡◌, ◌<◌, false, length, refl, ap, sym, ◌∙◌, arith, subst}
use Rattle.worker_core.specs.WorkerCore.{state_of}
use Rattle.server_worker.specs.Changes.{HasChanged}
use Rattle.server_worker.specs.Polled.{Admits}
use Rattle.server_worker.specs.Standing.{AllMade}
use Rattle.server_worker.specs.Turn.{ComesTo, IsFaulted, IsGoing}
use Rattle.server_worker.proofs.AdmitSteps.{admits_same}
use Rattle.server_worker.proofs.AskSteps.{checks_unmade, is_unset}
use Rattle.server_worker.proofs.ServeSteps.{turn_accounts, turn_due, turn_no_ready, turn_polls, turn_ready, turn_stops}
use Rattle.server_worker.proofs.TurnSteps.{armed_on, checks_turned, comes_going, comes_short, comes_unfaulted, fault_told, making_on, not_faulted, not_left, not_unstarted, sound_checked, tells_since, unchanged, works_served}
use Rattle.server_worker.proofs.WorkSteps.{sound_of_many, works_made}
use Rattle.server_worker.proofs.worker.Worker.turn_on.Goals as goal

pub returns-in-Some-clause-ready : goal.returns-in-Some-clause-ready
returns-in-Some-clause-ready g c = turn_no_ready _ _ _ c.serve_live.ensures.no_ready

pub returns-in-Some-clause-checks : goal.returns-in-Some-clause-checks
returns-in-Some-clause-checks g c _ = checks_unmade (g.F.ServerServiceFactory.may_ready c.serve_live.new.self.factory) _ _ _ _ c.serve_live.new.self.services.made (length c.serve_live.new.self.services.slots.items)
    c.serve_live.ensures.core (c.serve_live.ensures.made ∙ is_unset c.args.self.now.services.made _ c.requires.works.made c.in-Some.ensures.unmade)

pub returns-in-Some-clause-unstarted : goal.returns-in-Some-clause-unstarted
returns-in-Some-clause-unstarted g c token error is =
    let at : c.in-Some.token ≡ token = cc in
    let why : c.in-Some.error ≡ error = cc in
    let many : length c.serve_live.new.self.services.slots.items ≡ length c.make_services.new.slots.items = ap (λ v. length v.items) c.serve_live.ensures.slots in
    let inside : c.in-Some.token < length c.serve_live.new.self.services.slots.items = omega (arith, c.in-Some.ensures.error.0, many) in (
      subst (λ t. t < length c.serve_live.new.self.services.slots.items) at inside,
      subst (λ t. g.F.ServerServiceFactory.may_init c.serve_live.new.self.factory t error) at (subst (λ e. g.F.ServerServiceFactory.may_init c.serve_live.new.self.factory c.in-Some.token e) why
          (subst (λ f. g.F.ServerServiceFactory.may_init f c.in-Some.token c.in-Some.error) (sym c.serve_live.ensures.factory) c.in-Some.ensures.error.1)),
      c.serve_live.ensures.made ∙ is_unset c.args.self.now.services.made _ c.requires.works.made c.in-Some.ensures.unmade,
    )

pub returns-in-Some-clause-untold : goal.returns-in-Some-clause-untold
returns-in-Some-clause-untold g c token error is = c.serve_live.ensures.no_ready.told
    ∙ is_unset c.args.self.now.hand.told _ (λ told. c.requires.works.made (c.requires.works.told told)) c.in-Some.ensures.unmade

pub returns-in-Some-check-clause-stops : goal.returns-in-Some-check-clause-stops
returns-in-Some-check-clause-stops g c forced h = turn_stops g.L.Link.identity c.args.self.now.hand c.tell_ready.new.self.hand c.check.new.self.hand c.hand_back.new.self.hand c.tell_ready.ensures.owes
    (subst (λ d. Admits g.L.Link.identity c.tell_ready.new.self.hand d) (sym c.check.ensures.hand) (admits_same g.L.Link.identity c.tell_ready.new.self.hand)) forced h (c.hand_back.ensures.stops forced h)

pub returns-clause-accounts : goal.returns-clause-accounts
returns-clause-accounts g c = turn_accounts g.L.Link.identity c.args.self.now.hand c.tell_ready.new.self.hand c.admit_ready.new.self.hand c.serve_live-2.new.self.hand c.tell_ready.ensures.owes
    (subst (λ d. Admits g.L.Link.identity d c.admit_ready.new.self.hand) c.check.ensures.hand c.admit_ready.ensures.admits) c.serve_live-2.ensures.accounts

pub returns-clause-stops : goal.returns-clause-stops
returns-clause-stops g c forced h = turn_stops g.L.Link.identity c.args.self.now.hand c.tell_ready.new.self.hand c.admit_ready.new.self.hand c.serve_live-2.new.self.hand c.tell_ready.ensures.owes
    (subst (λ d. Admits g.L.Link.identity d c.admit_ready.new.self.hand) c.check.ensures.hand c.admit_ready.ensures.admits) forced h (c.serve_live-2.ensures.stops forced h)

pub returns-clause-polls : goal.returns-clause-polls
returns-clause-polls g c _ every = turn_polls g.L.Link.identity c.args.self.now.hand c.tell_ready.new.self.hand c.admit_ready.new.self.hand c.serve_live-2.new.self.hand c.tell_ready.ensures.owes
    (subst (λ d. Admits g.L.Link.identity d c.admit_ready.new.self.hand) c.check.ensures.hand c.admit_ready.ensures.admits) (c.serve_live-2.ensures.polls every)

pub returns-clause-due : goal.returns-clause-due
returns-clause-due g c _ = turn_due g.L.Link.identity c.args.self.now.hand c.tell_ready.new.self.hand c.admit_ready.new.self.hand c.serve_live-2.new.self.hand c.tell_ready.ensures.owes
    (subst (λ d. Admits g.L.Link.identity d c.admit_ready.new.self.hand) c.check.ensures.hand c.admit_ready.ensures.admits) c.args.news.now c.serve_live-2.ensures.due

pub make_services-requires : goal.make_services-requires
make_services-requires g c = record { slots = c.requires.works.slots }

pub serve_live-requires : goal.serve_live-requires
serve_live-requires g c = record { sound = sound_of_many g.F.Factory.ServiceFactory g.F.Factory.Future.Future g.F.Factory.Service.Service g.F.Factory.Service.Future.Future g.F.Factory.Service.Future.LinkHolder.may_stand (g.F.ServerServiceFactory.may_serve c.args.self.now.factory) (g.F.ServerServiceFactory.may_leave c.args.self.now.factory) (g.F.ServerServiceFactory.may_ready c.args.self.now.factory) (g.F.ServerServiceFactory.may_init c.args.self.now.factory) (g.F.ServerServiceFactory.may_make c.args.self.now.factory) c.args.self.now.hand _ _ c.in-Some.ensures.as_many c.requires.works.connections }

pub tell_ready-requires : goal.tell_ready-requires
tell_ready-requires g c = record { works = works_made g.F.Factory.ServiceFactory g.F.Factory.Future.Future g.F.Factory.Service.Service g.F.Factory.Service.Future.Future g.F.Factory.Service.Future.LinkHolder.may_stand (g.F.ServerServiceFactory.may_serve c.args.self.now.factory) (g.F.ServerServiceFactory.may_leave c.args.self.now.factory) (g.F.ServerServiceFactory.may_ready c.args.self.now.factory) (g.F.ServerServiceFactory.may_init c.args.self.now.factory) (g.F.ServerServiceFactory.may_make c.args.self.now.factory) c.args.self.now.services _ c.args.self.now.hand c.in_default.ensures.as_many refl refl c.in_default.ensures.waits c.in_default.ensures.slots c.requires.works }

pub check-requires : goal.check-requires
check-requires g c = record { works = c.tell_ready.ensures.works }

pub hand_back-requires : goal.hand_back-requires
hand_back-requires g c = record { sound = sound_checked g.F.Factory.ServiceFactory g.F.Factory.Future.Future g.F.Factory.Service.Service g.F.Factory.Service.Future.Future g.F.Factory.Service.Future.LinkHolder.may_stand g.F.ServerServiceFactory.may_serve g.F.ServerServiceFactory.may_leave g.F.ServerServiceFactory.may_ready g.F.ServerServiceFactory.may_init g.F.ServerServiceFactory.may_make c.tell_ready.new.self.factory c.check.new.self.factory _ _ c.tell_ready.new.self.hand c.check.new.self.hand c.check.ensures.factory c.check.ensures.as_many c.check.ensures.hand c.tell_ready.ensures.works.connections }

pub admit_ready-requires : goal.admit_ready-requires
admit_ready-requires g c = record { works = c.in_default-check.ensures.works }

pub serve_live-requires-2 : goal.serve_live-requires-2
serve_live-requires-2 g c = record { sound = c.admit_ready.ensures.works.connections }

pub returns-in-Some-clause-works : goal.returns-in-Some-clause-works
returns-in-Some-clause-works g c going = absurd going

pub returns-in-Some-clause-sound : goal.returns-in-Some-clause-sound
returns-in-Some-clause-sound g c = c.serve_live.ensures.sound

pub returns-in-Some-clause-factory : goal.returns-in-Some-clause-factory
returns-in-Some-clause-factory g c = c.serve_live.ensures.factory

pub returns-in-Some-clause-listeners : goal.returns-in-Some-clause-listeners
returns-in-Some-clause-listeners g c = ap (λ v. length v.items) c.serve_live.ensures.slots ∙ c.in-Some.ensures.as_many

pub returns-in-Some-clause-accounts : goal.returns-in-Some-clause-accounts
returns-in-Some-clause-accounts g c = c.serve_live.ensures.accounts

pub returns-in-Some-clause-tells : goal.returns-in-Some-clause-tells
returns-in-Some-clause-tells g c = c.serve_live.ensures.tells

pub returns-in-Some-clause-ready_told : goal.returns-in-Some-clause-ready_told
returns-in-Some-clause-ready_told g c going made = absurd going

pub returns-in-Some-clause-stops : goal.returns-in-Some-clause-stops
returns-in-Some-clause-stops g c = c.serve_live.ensures.stops

pub returns-in-Some-clause-polls : goal.returns-in-Some-clause-polls
returns-in-Some-clause-polls g c _ = c.serve_live.ensures.polls

pub returns-in-Some-clause-due : goal.returns-in-Some-clause-due
returns-in-Some-clause-due g c _ = c.serve_live.ensures.due

pub returns-in-Some-clause-unpolled : goal.returns-in-Some-clause-unpolled
returns-in-Some-clause-unpolled g c fault = absurd fault

pub returns-in-Some-clause-armed : goal.returns-in-Some-clause-armed
returns-in-Some-clause-armed g c whole token changed = absurd (unchanged c.args.self.now.services.core _ token c.serve_live.ensures.core changed)

pub returns-in-Some-clause-admits : goal.returns-in-Some-clause-admits
returns-in-Some-clause-admits g c going made available = absurd going

pub returns-in-Some-clause-waits : goal.returns-in-Some-clause-waits
returns-in-Some-clause-waits g c _ = ap (λ q. q.items) c.serve_live.ensures.queue

pub returns-in-Some-clause-going : goal.returns-in-Some-clause-going
returns-in-Some-clause-going g c going = absurd going

pub returns-in-Some-clause-parcels : goal.returns-in-Some-clause-parcels
returns-in-Some-clause-parcels g c = c.serve_live.ensures.parcels

pub returns-in-Some-clause-stopped : goal.returns-in-Some-clause-stopped
returns-in-Some-clause-stopped g c = c.serve_live.ensures.stopped ∙ c.requires.unstopped

pub returns-in-Some-clause-forced : goal.returns-in-Some-clause-forced
returns-in-Some-clause-forced g c = c.serve_live.ensures.forced

pub returns-in-Some-clause-all : goal.returns-in-Some-clause-all
returns-in-Some-clause-all g c is = absurd (subst (λ r. IsGoing r) (sym is) tt)

pub returns-in-Some-clause-short : goal.returns-in-Some-clause-short
returns-in-Some-clause-short g c is = absurd (subst (λ r. IsGoing r) (sym is) tt)

pub returns-in-Some-clause-total : goal.returns-in-Some-clause-total
returns-in-Some-clause-total g c = c.serve_live.ensures.total

pub returns-in-Some-clause-left : goal.returns-in-Some-clause-left
returns-in-Some-clause-left g c b is = cc

pub returns-in-Some-clause-faulted : goal.returns-in-Some-clause-faulted
returns-in-Some-clause-faulted g c token readiness error is = absurd (subst (λ r. IsFaulted r) (sym is) tt)

pub returns-in-Some-clause-kept : goal.returns-in-Some-clause-kept
returns-in-Some-clause-kept g c fact holds = c.serve_live.ensures.kept fact (c.in-Some.ensures.kept fact holds)

pub returns-in-Some-check-clause-works : goal.returns-in-Some-check-clause-works
returns-in-Some-check-clause-works g c going = absurd going

pub returns-in-Some-check-clause-sound : goal.returns-in-Some-check-clause-sound
returns-in-Some-check-clause-sound g c = c.hand_back.ensures.sound

pub returns-in-Some-check-clause-factory : goal.returns-in-Some-check-clause-factory
returns-in-Some-check-clause-factory g c = c.hand_back.ensures.factory ∙ c.check.ensures.factory ∙ c.tell_ready.ensures.factory

pub returns-in-Some-check-clause-listeners : goal.returns-in-Some-check-clause-listeners
returns-in-Some-check-clause-listeners g c = ap (λ v. length v.items) c.hand_back.ensures.slots ∙ c.check.ensures.as_many ∙ ap (λ v. length v.items) c.tell_ready.ensures.slots ∙ c.in_default.ensures.as_many

pub returns-in-Some-check-clause-accounts : goal.returns-in-Some-check-clause-accounts
returns-in-Some-check-clause-accounts g c = turn_accounts g.L.Link.identity c.args.self.now.hand c.tell_ready.new.self.hand c.check.new.self.hand c.hand_back.new.self.hand c.tell_ready.ensures.owes
    (subst (λ d. Admits g.L.Link.identity c.tell_ready.new.self.hand d) (sym c.check.ensures.hand) (admits_same g.L.Link.identity c.tell_ready.new.self.hand)) c.hand_back.ensures.accounts

pub returns-in-Some-check-clause-tells : goal.returns-in-Some-check-clause-tells
returns-in-Some-check-clause-tells g c = tells_since _ _ _ _ c.args.self.now.hand c.check.new.self.hand c.hand_back.new.self.hand (ap (λ h. h.notes) c.check.ensures.hand ∙ c.tell_ready.ensures.owes.notes) c.hand_back.ensures.tells

pub returns-in-Some-check-clause-ready : goal.returns-in-Some-check-clause-ready
returns-in-Some-check-clause-ready g c = turn_ready _ c.args.self.now.hand c.tell_ready.new.self.hand c.check.new.self.hand c.hand_back.new.self.hand c.tell_ready.ensures.owes
    (subst (λ d. Admits g.L.Link.identity c.tell_ready.new.self.hand d) (sym c.check.ensures.hand) (admits_same g.L.Link.identity c.tell_ready.new.self.hand)) c.hand_back.ensures.no_ready
    (λ was is. subst (λ v. AllMade v.items) (sym c.hand_back.ensures.slots) (c.check.ensures.all_made (c.check.ensures.made ∙ c.tell_ready.ensures.stand was is)))

pub returns-in-Some-check-clause-ready_told : goal.returns-in-Some-check-clause-ready_told
returns-in-Some-check-clause-ready_told g c going made = absurd going

pub returns-in-Some-check-clause-polls : goal.returns-in-Some-check-clause-polls
returns-in-Some-check-clause-polls g c whole = absurd (whole tt)

pub returns-in-Some-check-clause-due : goal.returns-in-Some-check-clause-due
returns-in-Some-check-clause-due g c whole = absurd (whole tt)

pub returns-in-Some-check-clause-unpolled : goal.returns-in-Some-check-clause-unpolled
returns-in-Some-check-clause-unpolled g c _ = c.hand_back.ensures.live ∙ ap (λ h. h.live) c.check.ensures.hand ∙ c.tell_ready.ensures.owes.live

pub returns-in-Some-check-clause-checks : goal.returns-in-Some-check-clause-checks
returns-in-Some-check-clause-checks g c whole = absurd (whole tt)

pub returns-in-Some-check-clause-armed : goal.returns-in-Some-check-clause-armed
returns-in-Some-check-clause-armed g c whole token changed = absurd (whole tt)

pub returns-in-Some-check-clause-admits : goal.returns-in-Some-check-clause-admits
returns-in-Some-check-clause-admits g c going made available = absurd going

pub returns-in-Some-check-clause-waits : goal.returns-in-Some-check-clause-waits
returns-in-Some-check-clause-waits g c _ = ap (λ q. q.items) (c.hand_back.ensures.queue ∙ ap (λ h. h.queue) c.check.ensures.hand ∙ c.tell_ready.ensures.owes.queue)

pub returns-in-Some-check-clause-going : goal.returns-in-Some-check-clause-going
returns-in-Some-check-clause-going g c going = absurd going

pub returns-in-Some-check-clause-parcels : goal.returns-in-Some-check-clause-parcels
returns-in-Some-check-clause-parcels g c = c.hand_back.ensures.parcels ∙ ap (λ h. h.parcels) c.check.ensures.hand ∙ c.tell_ready.ensures.owes.parcels

pub returns-in-Some-check-clause-stopped : goal.returns-in-Some-check-clause-stopped
returns-in-Some-check-clause-stopped g c = c.hand_back.ensures.stopped ∙ ap (λ h. h.stopped) c.check.ensures.hand ∙ c.tell_ready.ensures.owes.stopped ∙ c.requires.unstopped

pub returns-in-Some-check-clause-forced : goal.returns-in-Some-check-clause-forced
returns-in-Some-check-clause-forced g c = c.hand_back.ensures.forced ∙ ap (λ h. h.forced) c.check.ensures.hand ∙ c.tell_ready.ensures.owes.forced

pub returns-in-Some-check-clause-all : goal.returns-in-Some-check-clause-all
returns-in-Some-check-clause-all g c is = absurd (subst (λ r. IsGoing r) (sym is) tt)

pub returns-in-Some-check-clause-short : goal.returns-in-Some-check-clause-short
returns-in-Some-check-clause-short g c is = absurd (subst (λ r. IsGoing r) (sym is) tt)

pub returns-in-Some-check-clause-total : goal.returns-in-Some-check-clause-total
returns-in-Some-check-clause-total g c = c.hand_back.ensures.total

pub returns-in-Some-check-clause-left : goal.returns-in-Some-check-clause-left
returns-in-Some-check-clause-left g c b is = cc

pub returns-in-Some-check-clause-unstarted : goal.returns-in-Some-check-clause-unstarted
returns-in-Some-check-clause-unstarted g c token error is = absurd (subst (λ r. IsFaulted r) is tt)

pub returns-in-Some-check-clause-untold : goal.returns-in-Some-check-clause-untold
returns-in-Some-check-clause-untold g c token error is = absurd (subst (λ r. IsFaulted r) is tt)

pub returns-in-Some-check-clause-faulted : goal.returns-in-Some-check-clause-faulted
returns-in-Some-check-clause-faulted g c token readiness error is =
    let at : c.in-Some-check.fault.token ≡ token = cc is in
    let its : c.in-Some-check.fault.readiness ≡ readiness = cc is in
    let why : c.in-Some-check.fault.error ≡ error = cc is in
    let found = c.in-Some-check.ensures.fault in
    let it = fault_told g.F.ServerServiceFactory.may_ready g.F.ServerServiceFactory.may_init c.check.new.self.factory c.hand_back.new.self.factory _ _ c.in-Some-check.fault.token token c.in-Some-check.fault.readiness readiness c.in-Some-check.fault.error error c.hand_back.ensures.factory (ap (λ v. length v.items) c.hand_back.ensures.slots) at its why found.0 found.1 found.2 in
    (it.0, it.1, it.2, c.hand_back.ensures.made ∙ found.3, c.hand_back.ensures.no_ready.told ∙ ap (λ h. h.told) c.check.ensures.hand ∙ c.tell_ready.ensures.told (sym c.check.ensures.made ∙ found.3))

pub returns-in-Some-check-clause-kept : goal.returns-in-Some-check-clause-kept
returns-in-Some-check-clause-kept g c fact holds = c.check.ensures.kept fact (c.in_default.ensures.kept fact holds)

pub returns-clause-works : goal.returns-clause-works
returns-clause-works g c _ = works_served g.F.Factory.ServiceFactory g.F.Factory.Future.Future g.F.Factory.Service.Service g.F.Factory.Service.Future.Future g.F.Factory.Service.Future.LinkHolder.may_stand g.F.ServerServiceFactory.may_serve g.F.ServerServiceFactory.may_leave g.F.ServerServiceFactory.may_ready g.F.ServerServiceFactory.may_init g.F.ServerServiceFactory.may_make c.admit_ready.new.self.factory c.serve_live-2.new.self.factory c.admit_ready.new.self.services c.serve_live-2.new.self.services c.admit_ready.new.self.hand c.serve_live-2.new.self.hand c.serve_live-2.ensures.factory c.serve_live-2.ensures.slots c.serve_live-2.ensures.factories c.serve_live-2.ensures.made c.serve_live-2.ensures.no_ready.told c.serve_live-2.ensures.sound c.admit_ready.ensures.works

pub returns-clause-sound : goal.returns-clause-sound
returns-clause-sound g c = c.serve_live-2.ensures.sound

pub returns-clause-factory : goal.returns-clause-factory
returns-clause-factory g c = c.serve_live-2.ensures.factory ∙ c.admit_ready.ensures.factory ∙ c.check.ensures.factory ∙ c.tell_ready.ensures.factory

pub returns-clause-listeners : goal.returns-clause-listeners
returns-clause-listeners g c = ap (λ v. length v.items) c.serve_live-2.ensures.slots ∙ ap (λ s. length s.slots.items) c.admit_ready.ensures.services ∙ c.check.ensures.as_many ∙ ap (λ v. length v.items) c.tell_ready.ensures.slots ∙ c.in_default.ensures.as_many

pub returns-clause-tells : goal.returns-clause-tells
returns-clause-tells g c = tells_since _ _ _ _ c.args.self.now.hand c.admit_ready.new.self.hand c.serve_live-2.new.self.hand (c.admit_ready.ensures.admits.notes ∙ ap (λ h. h.notes) c.check.ensures.hand ∙ c.tell_ready.ensures.owes.notes) c.serve_live-2.ensures.tells

pub returns-clause-ready : goal.returns-clause-ready
returns-clause-ready g c =
    let same : c.serve_live-2.new.self.services.slots ≡ c.check.new.self.services.slots = c.serve_live-2.ensures.slots ∙ ap (λ s. s.slots) c.admit_ready.ensures.services in
    turn_ready _ c.args.self.now.hand c.tell_ready.new.self.hand c.admit_ready.new.self.hand c.serve_live-2.new.self.hand c.tell_ready.ensures.owes
    (subst (λ d. Admits g.L.Link.identity d c.admit_ready.new.self.hand) c.check.ensures.hand c.admit_ready.ensures.admits) c.serve_live-2.ensures.no_ready
    (λ was is. subst (λ v. AllMade v.items) (sym same) (c.check.ensures.all_made (c.check.ensures.made ∙ c.tell_ready.ensures.stand was is)))

pub returns-clause-ready_told : goal.returns-clause-ready_told
returns-clause-ready_told g c _ made =
    let still : c.serve_live-2.new.self.services.made ≡ c.check.new.self.services.made = c.serve_live-2.ensures.made ∙ ap (λ s. s.made) c.admit_ready.ensures.services in
    c.serve_live-2.ensures.no_ready.told ∙ c.admit_ready.ensures.admits.told_ready ∙ ap (λ h. h.told) c.check.ensures.hand ∙ c.tell_ready.ensures.told (sym c.check.ensures.made ∙ sym still ∙ made)

pub returns-clause-unpolled : goal.returns-clause-unpolled
returns-clause-unpolled g c fault = absurd (comes_unfaulted _ _ _ _ c.come_to.result c.come_to.ensures fault)

pub returns-clause-checks : goal.returns-clause-checks
returns-clause-checks g c _ =
    let still : c.serve_live-2.new.self.services.made ≡ c.check.new.self.services.made = c.serve_live-2.ensures.made ∙ ap (λ s. s.made) c.admit_ready.ensures.services in
    let same : c.serve_live-2.new.self.services.slots ≡ c.check.new.self.services.slots = c.serve_live-2.ensures.slots ∙ ap (λ s. s.slots) c.admit_ready.ensures.services in
    checks_turned g.F.ServerServiceFactory.may_ready c.check.new.self.factory c.serve_live-2.new.self.factory c.args.self.now.services.slots.items c.make_services.new.slots.items c.tell_ready.new.self.services.slots.items c.check.new.self.services.slots.items c.serve_live-2.new.self.services.slots.items
    c.args.self.now.services.core c.tell_ready.new.self.services.core c.check.new.self.services.core c.serve_live-2.new.self.services.core _ _ (c.serve_live-2.ensures.factory ∙ c.admit_ready.ensures.factory) (ap (λ v. v.items) c.tell_ready.ensures.slots) (ap (λ v. v.items) same)
    c.tell_ready.ensures.core (c.serve_live-2.ensures.core ∙ ap (λ s. s.core) c.admit_ready.ensures.services) still c.in_default.ensures.erred c.in_default-check.ensures.checks

pub returns-clause-armed : goal.returns-clause-armed
returns-clause-armed g c _ token changed = armed_on c.args.self.now.services.core c.check.new.self.services.core c.serve_live-2.new.self.services.core c.check.new.cx c.serve_live-2.new.cx token (c.serve_live-2.ensures.core ∙ ap (λ s. s.core) c.admit_ready.ensures.services)
    (λ t differs. c.in_default-check.ensures.armed t (subst (λ v. HasChanged v c.check.new.self.services.core t) (sym c.tell_ready.ensures.core) differs)) c.serve_live-2.ensures.kept changed

pub returns-clause-admits : goal.returns-clause-admits
returns-clause-admits g c _ made available = ap (λ q. q.items) c.serve_live-2.ensures.queue ∙ c.admit_ready.ensures.all (sym c.serve_live-2.ensures.made ∙ made) (ap state_of (sym c.serve_live-2.ensures.core) ∙ available)

pub returns-clause-waits : goal.returns-clause-waits
returns-clause-waits g c waits = ap (λ q. q.items) c.serve_live-2.ensures.queue ∙ c.admit_ready.ensures.none (λ made available. waits (c.serve_live-2.ensures.made ∙ made) (ap state_of c.serve_live-2.ensures.core ∙ available)) ∙ ap (λ h. h.queue.items) c.check.ensures.hand ∙ ap (λ q. q.items) c.tell_ready.ensures.owes.queue

pub returns-clause-going : goal.returns-clause-going
returns-clause-going g c _ =
    let still : c.serve_live-2.new.self.services.made ≡ c.check.new.self.services.made = c.serve_live-2.ensures.made ∙ ap (λ s. s.made) c.admit_ready.ensures.services in
    let same : c.serve_live-2.new.self.services.slots ≡ c.check.new.self.services.slots = c.serve_live-2.ensures.slots ∙ ap (λ s. s.slots) c.admit_ready.ensures.services in
    let before = λ (made : c.serve_live-2.new.self.services.made ≡ false). ap (λ v. v.items) same ∙ ap (λ v. v.items) (c.check.ensures.unmade (sym still ∙ made)) in
    record {
      notes = c.serve_live-2.ensures.notes;
      unmade = λ unstopped made. subst (λ xs. ¬ AllMade xs) (sym (before made)) (c.tell_ready.ensures.unmade (sym c.check.ensures.made ∙ sym still ∙ made));
      making = λ unstopped made. making_on c.args.self.now.services.slots.items c.make_services.new.slots.items c.serve_live-2.new.self.services.slots.items (before made ∙ ap (λ v. v.items) c.tell_ready.ensures.slots) c.in_default.ensures.waits;
    }

pub returns-clause-parcels : goal.returns-clause-parcels
returns-clause-parcels g c = c.serve_live-2.ensures.parcels ∙ c.admit_ready.ensures.admits.parcels ∙ ap (λ h. h.parcels) c.check.ensures.hand ∙ c.tell_ready.ensures.owes.parcels

pub returns-clause-stopped : goal.returns-clause-stopped
returns-clause-stopped g c = c.serve_live-2.ensures.stopped ∙ c.admit_ready.ensures.admits.stopped ∙ ap (λ h. h.stopped) c.check.ensures.hand ∙ c.tell_ready.ensures.owes.stopped ∙ c.requires.unstopped

pub returns-clause-forced : goal.returns-clause-forced
returns-clause-forced g c = c.serve_live-2.ensures.forced ∙ c.admit_ready.ensures.admits.forced ∙ ap (λ h. h.forced) c.check.ensures.hand ∙ c.tell_ready.ensures.owes.forced

pub returns-clause-all : goal.returns-clause-all
returns-clause-all g c is =
    let unstopped : c.serve_live-2.new.self.hand.stopped ≡ false = c.serve_live-2.ensures.stopped ∙ c.admit_ready.ensures.admits.stopped ∙ ap (λ h. h.stopped) c.check.ensures.hand ∙ c.tell_ready.ensures.owes.stopped ∙ c.requires.unstopped in
    let comes = subst (λ s. ComesTo s c.serve_live-2.new.self.hand.forced c.serve_live-2.new.self.total c.args.all c.come_to.result) unstopped c.come_to.ensures in
    comes_going _ _ _ c.come_to.result comes is

pub returns-clause-short : goal.returns-clause-short
returns-clause-short g c is =
    let unstopped : c.serve_live-2.new.self.hand.stopped ≡ false = c.serve_live-2.ensures.stopped ∙ c.admit_ready.ensures.admits.stopped ∙ ap (λ h. h.stopped) c.check.ensures.hand ∙ c.tell_ready.ensures.owes.stopped ∙ c.requires.unstopped in
    let comes = subst (λ s. ComesTo s c.serve_live-2.new.self.hand.forced c.serve_live-2.new.self.total c.args.all c.come_to.result) unstopped c.come_to.ensures in
    comes_short _ _ _ c.come_to.result comes is

pub returns-clause-total : goal.returns-clause-total
returns-clause-total g c = c.serve_live-2.ensures.total

pub returns-clause-left : goal.returns-clause-left
returns-clause-left g c b is =
    let unstopped : c.serve_live-2.new.self.hand.stopped ≡ false = c.serve_live-2.ensures.stopped ∙ c.admit_ready.ensures.admits.stopped ∙ ap (λ h. h.stopped) c.check.ensures.hand ∙ c.tell_ready.ensures.owes.stopped ∙ c.requires.unstopped in
    let comes = subst (λ s. ComesTo s c.serve_live-2.new.self.hand.forced c.serve_live-2.new.self.total c.args.all c.come_to.result) unstopped c.come_to.ensures in
    not_left _ _ _ c.come_to.result comes b is

pub returns-clause-unstarted : goal.returns-clause-unstarted
returns-clause-unstarted g c token error is =
    let unstopped : c.serve_live-2.new.self.hand.stopped ≡ false = c.serve_live-2.ensures.stopped ∙ c.admit_ready.ensures.admits.stopped ∙ ap (λ h. h.stopped) c.check.ensures.hand ∙ c.tell_ready.ensures.owes.stopped ∙ c.requires.unstopped in
    let comes = subst (λ s. ComesTo s c.serve_live-2.new.self.hand.forced c.serve_live-2.new.self.total c.args.all c.come_to.result) unstopped c.come_to.ensures in
    absurd (not_unstarted _ _ _ c.come_to.result comes token error is)

pub returns-clause-untold : goal.returns-clause-untold
returns-clause-untold g c token error is =
    let unstopped : c.serve_live-2.new.self.hand.stopped ≡ false = c.serve_live-2.ensures.stopped ∙ c.admit_ready.ensures.admits.stopped ∙ ap (λ h. h.stopped) c.check.ensures.hand ∙ c.tell_ready.ensures.owes.stopped ∙ c.requires.unstopped in
    let comes = subst (λ s. ComesTo s c.serve_live-2.new.self.hand.forced c.serve_live-2.new.self.total c.args.all c.come_to.result) unstopped c.come_to.ensures in
    absurd (not_unstarted _ _ _ c.come_to.result comes token error is)

pub returns-clause-faulted : goal.returns-clause-faulted
returns-clause-faulted g c token readiness error is =
    let unstopped : c.serve_live-2.new.self.hand.stopped ≡ false = c.serve_live-2.ensures.stopped ∙ c.admit_ready.ensures.admits.stopped ∙ ap (λ h. h.stopped) c.check.ensures.hand ∙ c.tell_ready.ensures.owes.stopped ∙ c.requires.unstopped in
    let comes = subst (λ s. ComesTo s c.serve_live-2.new.self.hand.forced c.serve_live-2.new.self.total c.args.all c.come_to.result) unstopped c.come_to.ensures in
    absurd (not_faulted _ _ _ c.come_to.result comes token readiness error is)

pub returns-clause-kept : goal.returns-clause-kept
returns-clause-kept g c fact holds = c.serve_live-2.ensures.kept fact (c.check.ensures.kept fact (c.in_default.ensures.kept fact holds))
