use Rattle.std.proofs.Common.{◌≡◌, ◌∙◌, ap, sym, Some, None, List, ℕ, map}
use Rattle.std.specs.List.{position}
use Rattle.groups.specs.Caches.{is_of, kept_of}
use Rattle.groups.specs.Kept.{entry_kept}
use Rattle.groups.proofs.PairLemmas.{place_kept}
use Rattle.groups.proofs.KeptLemmas.{added_right, found_right, none_any}
use Rattle.groups.proofs.cache.GroupCache.find.Goals as goal

pub returns-in-Some : goal.returns-in-Some
returns-in-Some c =
    let version = c.args.snapshot.now.version in
    let entries = c.self.inside.kept.entries in
    let at : position (is_of c.args.table.now version) c.args.self.now ≡ Some c.in-Some.place =
    ap (position (is_of c.args.table.now version)) (sym c.self.view_is)
    ∙ ap (λ (name : List ℕ). position (is_of name version) (map entry_kept entries)) (sym c.in-Ok.ensures.items)
    ∙ sym (place_kept (c.in-Ok.name, version) entries)
    ∙ sym c.get_index_of.ensures.index ∙ c.in-Some.is in
    found_right c.args.self.now c.args.table.now c.args.snapshot.now c.in-Some.place at c.requires.one

pub add-requires : goal.add-requires
add-requires c =
    let version = c.args.snapshot.now.version in
    let entries = c.self.inside.kept.entries in
    let none : position (is_of c.in-Ok.name.items version) c.args.self.now ≡ None =
    ap (position (is_of c.in-Ok.name.items version)) (sym c.self.view_is)
    ∙ sym (place_kept (c.in-Ok.name, version) entries)
    ∙ sym c.get_index_of.ensures.index ∙ c.in_default-get_index_of.is in
    none_any (is_of c.in-Ok.name.items version) c.args.self.now none

pub returns-in-Ok-add : goal.returns-in-Ok-add
returns-in-Ok-add c =
    let version = c.args.snapshot.now.version in
    let groups = c.in_ok-groups.groups in
    let name : c.in-Ok.name.items ≡ c.args.table.now = c.in-Ok.ensures.items in
    let entries = c.self.inside.kept.entries in
    let none : position (is_of c.args.table.now version) c.args.self.now ≡ None =
    ap (position (is_of c.args.table.now version)) (sym c.self.view_is)
    ∙ ap (λ (text : List ℕ). position (is_of text version) (map entry_kept entries)) (sym name)
    ∙ sym (place_kept (c.in-Ok.name, version) entries)
    ∙ sym c.get_index_of.ensures.index ∙ c.in_default-get_index_of.is in
    added_right c.args.self.now c.args.table.now c.args.snapshot.now (entry_kept ((c.in-Ok.name, version), groups)) c.in-Ok-add.place c.add.new.self
    (none_any (is_of c.args.table.now version) c.args.self.now none)
    (ap (λ (text : List ℕ). kept_of text c.args.snapshot.now groups.items) name)
    c.in_ok-groups.ensures c.in-Ok-add.ensures.ok
