use Rattle.std.proofs.Common.{◌≡◌, ◌≤◌, ◌<◌, ◌-◌, ◌^◌, ◌++◌, [], length, take, drop, map, min, sum}
use Rattle.head_sync.specs.Sessions.{gives}
use Rattle.head_sync.specs.Texts.{texts_at}
use Rattle.head_sync.proofs.answering.giving.Given as goal

-- the texts from the start on stand in the message at hand
abbrev pub invariant-loop-i : goal.invariant-loop-i
invariant-loop-i g l =
    let k = g.H.LinkKeeper.held l.keeper in
    let now = texts_at k.links (take (l.i - l.start) (drop l.start l.positions)) in
    record {
      within : l.start ≤ l.i;
      some : l.start ≡ l.i → l.i ≡ 0;
      count : length now ≡ l.i - l.start;
      size : l.size ≡ min (sum (map length now)) (2 ^ 64 - 1);
      made : gives k.team [] (texts_at k.links l.positions) ≡ l.sent ++ gives k.team now (texts_at k.links (drop l.i l.positions));
    }
