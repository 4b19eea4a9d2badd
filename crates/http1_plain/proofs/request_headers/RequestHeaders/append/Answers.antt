use Rattle.std.proofs.Common.{◌≡◌, ◌+◌, ◌++◌, ◌∷◌, [], List, ℕ, length, sym, ap, ◌∙◌, subst}
use Rattle.httparse.specs.declared.spans.HeaderSpan.{HeaderSpan}
use Rattle.http_header.specs.FieldName.{IsFieldName}
use Rattle.http_header.specs.Token.{lowercase}
use Rattle.http1_plain.specs.Spanned.{headers_at}
use Rattle.http1_plain.proofs.SpanSteps.{spans_kept, headers_kept, pushed_valid, pushed_is, on_err}
use Rattle.http1_plain.proofs.request_headers.RequestHeaders.append.Goals as goal

pub returns-in_err-value-clause-err : goal.returns-in_err-value-clause-err
returns-in_err-value-clause-err c = on_err c.from_residual-in_err-value.result
    (ap (λ (text : List ℕ). headers_at text c.self.inside.spans.items) (c.in_err-value.ensures.err ∙ c.in_ok-name.ensures.ok)
    ∙ headers_kept c.self.inside.text _ c.self.inside.spans.items c.self.invariant ∙ c.self.view_is)

pub invariant_of-self-in_err-push : goal.invariant_of-self-in_err-push
invariant_of-self-in_err-push c =
    rw (c.in_err-push.ensures.items, c.in_ok-value.ensures.ok, c.in_ok-name.ensures.ok)
    (spans_kept (c.self.inside.text ++ c.as_bytes.result.now) c.as_field_bytes.result.now c.self.inside.spans.items
    (spans_kept c.self.inside.text c.as_bytes.result.now c.self.inside.spans.items c.self.invariant))

pub returns-in_err-push-clause-err : goal.returns-in_err-push-clause-err
returns-in_err-push-clause-err c = on_err c.from_residual-in_err-push.result
    (ap (λ (spans : List HeaderSpan). headers_at c.push_span-2.new.text spans) c.in_err-push.ensures.items
    ∙ ap (λ (text : List ℕ). headers_at text c.self.inside.spans.items) (c.in_ok-value.ensures.ok ∙ ap (λ (text : List ℕ). text ++ c.as_field_bytes.result.now) c.in_ok-name.ensures.ok)
    ∙ headers_kept (c.self.inside.text ++ c.as_bytes.result.now) c.as_field_bytes.result.now c.self.inside.spans.items
    (spans_kept c.self.inside.text c.as_bytes.result.now c.self.inside.spans.items c.self.invariant)
    ∙ headers_kept c.self.inside.text c.as_bytes.result.now c.self.inside.spans.items c.self.invariant ∙ c.self.view_is)

pub invariant_of-self-2 : goal.invariant_of-self-2
invariant_of-self-2 c =
    rw (c.in_ok-push.ensures.items, c.in_ok-value.ensures.ok, c.in_ok-name.ensures.ok)
    (pushed_valid c.self.inside.text c.as_bytes.result.now c.as_field_bytes.result.now c.in_ok-name.name c.in_ok-value.value
    c.in_ok-name.ensures.start c.in_ok-name.ensures.end
    (c.in_ok-value.ensures.start ∙ ap length c.in_ok-name.ensures.ok)
    (c.in_ok-value.ensures.end ∙ ap (λ (text : List ℕ). length text + length c.as_field_bytes.result.now) c.in_ok-name.ensures.ok)
    c.self.inside.spans.items
    (subst IsFieldName (sym c.as_bytes.ensures.value) c.as_bytes.ensures.valid.0) c.as_field_bytes.ensures.valid c.self.invariant)

pub returns-clause-ok : goal.returns-clause-ok
returns-clause-ok c =
    ap (λ (spans : List HeaderSpan). headers_at c.push_span-2.new.text spans) c.in_ok-push.ensures.items
    ∙ ap (λ (text : List ℕ). headers_at text (c.self.inside.spans.items ++ record { name = c.in_ok-name.name; value = c.in_ok-value.value } ∷ []))
    (c.in_ok-value.ensures.ok ∙ ap (λ (text : List ℕ). text ++ c.as_field_bytes.result.now) c.in_ok-name.ensures.ok)
    ∙ pushed_is c.self.inside.text c.as_bytes.result.now c.as_field_bytes.result.now c.in_ok-name.name c.in_ok-value.value
    c.in_ok-name.ensures.start c.in_ok-name.ensures.end
    (c.in_ok-value.ensures.start ∙ ap length c.in_ok-name.ensures.ok)
    (c.in_ok-value.ensures.end ∙ ap (λ (text : List ℕ). length text + length c.as_field_bytes.result.now) c.in_ok-name.ensures.ok)
    c.self.inside.spans.items
    (subst (λ (name : List ℕ). lowercase name ≡ name) (sym c.as_bytes.ensures.value) c.as_bytes.ensures.valid.1) c.self.invariant
    ∙ (λ i. c.self.view_is i ++ (c.as_bytes.ensures.value i, c.as_field_bytes.ensures.same i) ∷ [])
