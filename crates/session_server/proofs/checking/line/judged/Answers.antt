use Rattle.std.proofs.Common.{◌≡◌, ◌∙◌, IsTrue, false, ap, subst}
use Rattle.paql_engine.specs.Performed.{is_exact}
use Rattle.paql_engine.specs.Preparing.{RefusesToPrepare, Tells}
use Rattle.paql_engine.specs.declared.preparing.PrepareFault.{PrepareFault}
use Rattle.session_proto.specs.Refusals.{refusal_of, not_built}
use Rattle.session_proto.specs.Replies.{ReplyData, reply_text}
use Rattle.session_server.specs.Checks.{by_sketch, because, nameless}
use Rattle.session_server.proofs.Lines.{refused_if, verdict_if}
use Rattle.session_server.proofs.checking.line.judged.Goals as goal

pub returns-then-not-is_exact-clause-tells : goal.returns-then-not-is_exact-clause-tells
returns-then-not-is_exact-clause-tells g c =
    let inexact : is_exact c.args.query.now.method ≡ false = cc in
    refused_if (g.V.Vault.held c.args.vault.now) c.args.query.now c.args.after.now (refusal_of not_built) c.not_built_line.result.now c.unjudged.result (by_sketch inexact) c.not_built_line.ensures c.unjudged.ensures

pub returns-in-Ok-clause-tells : goal.returns-in-Ok-clause-tells
returns-in-Ok-clause-tells g c =
    let exact : IsTrue (is_exact c.args.query.now.method) = cc in
    verdict_if (g.V.Vault.held c.prepare.new.vault) c.args.query.now c.args.after.now c.certificate_in.result.now c.in-Ok.prepared c.verdict_line.result exact c.in-Ok.ensures.gives c.certificate_in.ensures c.verdict_line.ensures

pub returns-in_ok-bytes-in-Err-Refused-clause-tells :
    goal.returns-in_ok-bytes-in-Err-Refused-clause-tells
returns-in_ok-bytes-in-Err-Refused-clause-tells g c =
    let exact : IsTrue (is_exact c.args.query.now.method) = cc in
    let told = subst (λ (f : PrepareFault). Tells (RefusesToPrepare (g.V.Vault.held c.prepare.new.vault) c.args.query.now) f) c.in-Err-Refused.field-0-is c.in-Err-Refused.ensures.gives in
    refused_if (g.V.Vault.held c.prepare.new.vault) c.args.query.now c.args.after.now (refusal_of told.0) c.deref.result.now c.unjudged-in-Err-Refused.result (because told.0 exact told.1)
    (c.deref.ensures.value ∙ c.in_ok-bytes-in-Err-Refused.ensures ∙ ap (λ (r : ReplyData). reply_text r) told.2) c.unjudged-in-Err-Refused.ensures

pub returns-in-Err-NotBuilt-clause-tells : goal.returns-in-Err-NotBuilt-clause-tells
returns-in-Err-NotBuilt-clause-tells g c =
    let exact : IsTrue (is_exact c.args.query.now.method) = cc in
    let told = subst (λ (f : PrepareFault). Tells (RefusesToPrepare (g.V.Vault.held c.prepare.new.vault) c.args.query.now) f) c.in-Err-NotBuilt.field-0-is c.in-Err-NotBuilt.ensures.gives in
    refused_if (g.V.Vault.held c.prepare.new.vault) c.args.query.now c.args.after.now (refusal_of not_built) c.not_built_line-in-Err-NotBuilt.result.now c.unjudged-in-Err-NotBuilt.result (nameless told.0 exact told.1 told.2) c.not_built_line-in-Err-NotBuilt.ensures c.unjudged-in-Err-NotBuilt.ensures
