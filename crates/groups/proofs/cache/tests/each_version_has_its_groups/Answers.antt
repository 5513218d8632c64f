use Rattle.groups.proofs.WorkedLemmas.{either, first_shown, nothing_right, second_shown}
use Rattle.groups.proofs.cache.tests.each_version_has_its_groups.Goals as goal

pub count-requires-clause-one : goal.count-requires-clause-one
count-requires-clause-one g c =
    let shown = either c.in_ok-first.first c.in_ok-second.second in
    record {
      shown = shown;
      right = nothing_right shown c.new-cache.result c.new-cache.ensures;
      current = first_shown c.in_ok-first.first c.in_ok-second.second c.in_ok-first.ensures.version;
    }

pub count-requires-2-clause-one : goal.count-requires-2-clause-one
count-requires-2-clause-one g c =
    let shown = either c.in_ok-first.first c.in_ok-second.second in
    let first = first_shown c.in_ok-first.first c.in_ok-second.second c.in_ok-first.ensures.version in
    record {
      shown = shown;
      right = c.in_ok-before.ensures shown (nothing_right shown c.new-cache.result c.new-cache.ensures) first;
      current = second_shown c.in_ok-first.first c.in_ok-second.second c.in_ok-second.ensures.version;
    }

pub count-requires-3-clause-one : goal.count-requires-3-clause-one
count-requires-3-clause-one g c =
    let shown = either c.in_ok-first.first c.in_ok-second.second in
    let first = first_shown c.in_ok-first.first c.in_ok-second.second c.in_ok-first.ensures.version in
    let second = second_shown c.in_ok-first.first c.in_ok-second.second c.in_ok-second.ensures.version in
    record {
      shown = shown;
      right = c.in_ok-other.ensures shown (c.in_ok-before.ensures shown (nothing_right shown c.new-cache.result c.new-cache.ensures) first) second;
      current = first;
    }
