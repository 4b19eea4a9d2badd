use Rattle.std.proofs.Common.{sym, subst, ap, refl}
use Rattle.http1_plain.specs.Singles.{IsSingle}
use Rattle.http1_plain.specs.Views.{minor_version}
use Rattle.http1_head.specs.Framings.{capped}
use Rattle.http1_head.proofs.FramingSteps.{two_codings, coded_and_sized}
use Rattle.http1_head.proofs.framing.framing_by.Goals as goal

pub returns-in-Missing-Missing : goal.returns-in-Missing-Missing
returns-in-Missing-Missing c = λ codings lengths coding len.
    rw (subst (IsSingle codings) c.in-Missing-Missing.is-0 coding, subst (IsSingle lengths) c.in-Missing-Missing.is-1 len) refl

pub returns-in-Missing-One : goal.returns-in-Missing-One
returns-in-Missing-One c = λ codings lengths coding len.
    rw (subst (IsSingle codings) c.in-Missing-One.is-0 coding, subst (IsSingle lengths) c.in-Missing-One.is-1 len)
    c.length_framing.ensures

pub returns-in-One-Missing : goal.returns-in-One-Missing
returns-in-One-Missing c = λ codings lengths coding len.
    rw (subst (IsSingle codings) c.in-One-Missing.is-0 coding, subst (IsSingle lengths) c.in-One-Missing.is-1 len)
    (c.coding_framing.ensures c.args.most)

pub returns-in_default : goal.returns-in_default
returns-in_default c = λ codings lengths coding len.
    rw (subst (IsSingle codings) c.in_default.is-0 coding, (subst (IsSingle lengths) c.in_default.is-1 len).3) refl

pub returns-in_default-2 : goal.returns-in_default-2
returns-in_default-2 c = λ codings lengths coding len.
    rw (subst (IsSingle codings) c.in_default.is-0 coding)
    (ap (capped c.args.most) (sym (coded_and_sized (minor_version c.args.version) c.in_default.field-0-0.now lengths c.args.length c.in_default.not-Missing-1 len)))

pub returns-in_default-3 : goal.returns-in_default-3
returns-in_default-3 c = λ codings lengths coding len.
    let several = subst (IsSingle codings) c.in_default.is-0 coding in
    rw several.3 (ap (capped c.args.most) (sym (two_codings (minor_version c.args.version) several.0 several.1 several.2 lengths)))
