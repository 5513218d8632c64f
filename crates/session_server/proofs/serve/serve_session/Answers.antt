use Rattle.std.proofs.Common.{◌∙◌, sym, ap}
use Rattle.version_store.specs.Vaults.{holding}
use Rattle.paql_engine.specs.Conversation.{Stage, told_at}
use Rattle.session_server.proofs.Complete.{is_whole}
use Rattle.session_server.proofs.Running.{begins, goes_on, puts, pulls, has_cause, ends_with}
use Rattle.session_server.proofs.serve.serve_session.Goals as goal

pub loop-vault-init : goal.loop-vault-init
loop-vault-init g c =
    begins (holding g.V.Vault.held g.V.Vault.own g.V.Vault.stake c.args.vault.now) _ _ c.new-machine.result c.new-machine.ensures.serves c.new-machine.ensures.told

pub loop-vault-preserved-in-Parse : goal.loop-vault-preserved-in-Parse
loop-vault-preserved-in-Parse g c =
    let vault = holding g.V.Vault.held g.V.Vault.own g.V.Vault.stake c.args.vault.now in
    let before = holding g.V.Vault.held g.V.Vault.own g.V.Vault.stake c.loop-vault.vault in
    let after = holding g.V.Vault.held g.V.Vault.own g.V.Vault.stake c.wish.new.vault in
    let wished = rw c.in-Parse.is at c.wish.ensures.wish in
    let stood = goes_on vault before after _ _ _ _ c.loop-vault.machine c.wish.new.self c.wish.ensures.continues c.wish.ensures.grows c.wish.ensures.told c.loop-vault.invariant in
    let later = holding g.V.Vault.held g.V.Vault.own g.V.Vault.stake c.parse_next.new.vault in
    goes_on vault after later _ _ _ _ c.wish.new.self c.parse_next.new.machine c.parse_next.ensures.continues c.parse_next.ensures.grows
    (c.parse_next.ensures.told ∙ sym (ap (λ (s : Stage). told_at s) wished.1)) stood

pub loop-vault-preserved-in-Write : goal.loop-vault-preserved-in-Write
loop-vault-preserved-in-Write g c =
    let vault = holding g.V.Vault.held g.V.Vault.own g.V.Vault.stake c.args.vault.now in
    let before = holding g.V.Vault.held g.V.Vault.own g.V.Vault.stake c.loop-vault.vault in
    let after = holding g.V.Vault.held g.V.Vault.own g.V.Vault.stake c.wish.new.vault in
    let wished = rw c.in-Write.is at c.wish.ensures.wish in
    let stood = goes_on vault before after _ _ _ _ c.loop-vault.machine c.wish.new.self c.wish.ensures.continues c.wish.ensures.grows c.wish.ensures.told c.loop-vault.invariant in
    puts vault after _ _ _ _ _ c.wish.new.self c.write_owed.new.machine wished.0 c.write_owed.ensures stood

pub loop-vault-preserved : goal.loop-vault-preserved
loop-vault-preserved g c =
    let vault = holding g.V.Vault.held g.V.Vault.own g.V.Vault.stake c.args.vault.now in
    let before = holding g.V.Vault.held g.V.Vault.own g.V.Vault.stake c.loop-vault.vault in
    let after = holding g.V.Vault.held g.V.Vault.own g.V.Vault.stake c.wish.new.vault in
    let wished = rw c.in-Read.is at c.wish.ensures.wish in
    let stood = goes_on vault before after _ _ _ _ c.loop-vault.machine c.wish.new.self c.wish.ensures.continues c.wish.ensures.grows c.wish.ensures.told c.loop-vault.invariant in
    pulls vault after _ _ _ _ _ c.wish.new.self c.read_more.new.machine wished.0 c.read_more.ensures stood

pub returns-in-End-clause-ends : goal.returns-in-End-clause-ends
returns-in-End-clause-ends g c =
    let vault = holding g.V.Vault.held g.V.Vault.own g.V.Vault.stake c.args.vault.now in
    let before = holding g.V.Vault.held g.V.Vault.own g.V.Vault.stake c.loop-vault.vault in
    let after = holding g.V.Vault.held g.V.Vault.own g.V.Vault.stake c.wish.new.vault in
    let wished = rw c.in-End.is at c.wish.ensures.wish in
    let stood = goes_on vault before after _ _ _ _ c.loop-vault.machine c.wish.new.self c.wish.ensures.continues c.wish.ensures.grows c.wish.ensures.told c.loop-vault.invariant in
    ends_with vault after _ _ _ _ c.wish.new.self c.in-End.end wished stood

pub returns-in-End-clause-cause : goal.returns-in-End-clause-cause
returns-in-End-clause-cause g c =
    let vault = holding g.V.Vault.held g.V.Vault.own g.V.Vault.stake c.args.vault.now in
    let before = holding g.V.Vault.held g.V.Vault.own g.V.Vault.stake c.loop-vault.vault in
    let after = holding g.V.Vault.held g.V.Vault.own g.V.Vault.stake c.wish.new.vault in
    let wished = rw c.in-End.is at c.wish.ensures.wish in
    let stood = goes_on vault before after _ _ _ _ c.loop-vault.machine c.wish.new.self c.wish.ensures.continues c.wish.ensures.grows c.wish.ensures.told c.loop-vault.invariant in
    has_cause vault after _ _ _ _ c.wish.new.self c.in-End.end wished stood

pub returns-in-End-clause-complete : goal.returns-in-End-clause-complete
returns-in-End-clause-complete g c =
    let vault = holding g.V.Vault.held g.V.Vault.own g.V.Vault.stake c.args.vault.now in
    let before = holding g.V.Vault.held g.V.Vault.own g.V.Vault.stake c.loop-vault.vault in
    let after = holding g.V.Vault.held g.V.Vault.own g.V.Vault.stake c.wish.new.vault in
    let wished = rw c.in-End.is at c.wish.ensures.wish in
    let stood = goes_on vault before after _ _ _ _ c.loop-vault.machine c.wish.new.self c.wish.ensures.continues c.wish.ensures.grows c.wish.ensures.told c.loop-vault.invariant in
    is_whole vault after _ _ _ _ c.in-End.end (ends_with vault after _ _ _ _ c.wish.new.self c.in-End.end wished stood)
