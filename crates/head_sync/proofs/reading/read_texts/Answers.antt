use Rattle.std.proofs.Common.{◌≡◌, ◌≤◌, ◌<◌, ◌^◌, length, refl, sym, ap, ◌∙◌, rules, arith}
use Rattle.head_sync.specs.Messages.{frames_of}
use Rattle.head_sync.specs.declared.fault.ReadFault.TheVariants.{BadMessage}
use Rattle.head_sync.proofs.ReadParts.{all_read, found_frame, next_given, none_left, not_missed, some_left}
use Rattle.head_sync.proofs.reading.read_texts.Goals as goal
use Rattle.head_sync.proofs.reading.read_texts.Goals.{then-text-ge-LENGTHS-via-then-text-ge-LENGTHS, then-text-ge-LENGTHS-via-else-text-ge-LENGTHS+then-len-ge-MOST_GIVEN_LINKS}

pub returns-in_err-text : goal.returns-in_err-text
returns-in_err-text c = record {
  found = search rules;
  only = λ ts are e.
      let some = some_left c.loop-rest.rest.now c.is_empty.result c.is_empty.ensures c.loop-rest-test.true in
      let n = next_given c.loop-rest.texts c.args.bytes.now c.loop-rest.rest.now c.loop-rest.invariant.short c.loop-rest.invariant.text some ts are e in
      let short = n.3 in
      absurd (not_missed c.split_frame.result BadMessage _ _ (sym c.ok_or.ensures.value ∙ c.in_err-text.was) (c.split_frame.ensures.only n.0 (frames_of n.1) (omega (arith, short)) n.2));
}

pub returns-then-text-ge-LENGTHS : goal.returns-then-text-ge-LENGTHS
returns-then-text-ge-LENGTHS c = record {
  found = search rules;
  only = λ ts are e.
      let some = some_left c.loop-rest.rest.now c.is_empty.result c.is_empty.ensures c.loop-rest-test.true in
      let n = next_given c.loop-rest.texts c.args.bytes.now c.loop-rest.rest.now c.loop-rest.invariant.short c.loop-rest.invariant.text some ts are e in
      let short = n.3 in
      let few = n.4 in
      let same = found_frame c.split_frame.result BadMessage c.in_ok-text.text c.in_ok-text.after n.0 (frames_of n.1) (sym c.ok_or.ensures.value ∙ c.in_ok-text.was)
      (c.split_frame.ensures.only n.0 (frames_of n.1) (omega (arith, short)) n.2) in
      let size = ap length same in
      elim c.then-text-ge-LENGTHS.branch [
        | then-text-ge-LENGTHS-via-then-text-ge-LENGTHS w ↦ let long = w.if-text-ge-LENGTHS.true in absurd (omega (arith, short, size, long))
        | then-text-ge-LENGTHS-via-else-text-ge-LENGTHS+then-len-ge-MOST_GIVEN_LINKS w ↦ let many = w.if-len-ge-MOST_GIVEN_LINKS.true in absurd (omega (arith, few, many))
      ];
}

pub returns : goal.returns
returns c =
    all_read c.loop-rest.texts c.args.bytes.now c.loop-rest.rest.now c.loop-rest.invariant.short c.loop-rest.invariant.text
    (none_left c.loop-rest.rest.now c.is_empty.result c.is_empty.ensures (search rules)) c.loop-rest.invariant.few
