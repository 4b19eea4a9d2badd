use Rattle.std.proofs.Common.{◌≡◌, sym, subst, ◌∙◌, map}
use Rattle.http1_grammar.specs.Head.{header_of}
use Rattle.http1_plain.specs.Views.{minor_version}
use Rattle.http_header.specs.Token.{IsToken}
use Rattle.http1_head.proofs.HeadSteps.{token_of, spans_at, headers_are}
use Rattle.http1_head.proofs.head.head_at.Goals as goal

pub method_of-requires : goal.method_of-requires
method_of-requires c =
    let tree = c.requires.tree.0 in
    let at = c.requires.tree.1 in
    subst IsToken (sym (c.of.ensures ∙ at.method)) (token_of tree.method at.reads.0.method)

pub of_spans-requires : goal.of_spans-requires
of_spans-requires c =
    let at = c.requires.tree.1 in
    spans_at c.args.text.now _ c.args.found.len c.requires.tree.0.fields c.requires.size c.requires.within.section.len_fits
    c.requires.within.section.headers_fit at.reads.0.fields at.fields

pub returns : goal.returns
returns c = λ tree at.
    let method : c.in_ok-method.method ≡ tree.method = c.in_ok-method.ensures ∙ c.of.ensures ∙ at.method in
    let target : c.in_ok-target.target ≡ tree.target = c.in_ok-target.ensures ∙ c.of-2.ensures ∙ at.path in
    let minor : minor_version c.version_of-version.result ≡ tree.minor = c.version_of-version.ensures ∙ at.version in
    let headers : c.in_ok-headers.headers ≡ map header_of tree.fields =
    c.in_ok-headers.ensures ∙ headers_are c.args.text.now _ tree.fields at.fields in
    cc (method, target, minor, headers)
