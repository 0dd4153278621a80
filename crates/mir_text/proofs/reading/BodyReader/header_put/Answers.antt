use Rattle.std.proofs.Common.{◌∙◌, ap}
use Rattle.mir_read.specs.declared.resolve.Headers.{Headers}
use Rattle.mir_read.specs.Body.{BodyValue, with_header}
use Rattle.mir_read.specs.Resolving.{noted}
use Rattle.mir_text.proofs.Bodies.{header_is}
use Rattle.mir_text.proofs.reading.BodyReader.header_put.Goals as goal

pub returns-clause-value : goal.returns-clause-value
returns-clause-value c =
    let r = c.args.self in
    let h = c.args.header in
    header_is c.args.target.now r h c.keys.inside.inner.value c.ranges-2.inside.inner.value _ _ c.keys.view_is c.ranges-2.view_is
    (c.in_ok-new.ensures ∙ c.in_ok-headers.ensures.value ∙ ap (λ (x : Headers). noted x h.number c.as_slice.result.now) c.into_inner-headers.ensures ∙ ap (noted r.headers h.number) c.as_slice.ensures)
    (c.in_ok-new-2.ensures ∙ c.in_ok-body.ensures.value ∙ ap (λ (x : BodyValue). with_header c.args.target.now x h) c.into_inner.ensures)
