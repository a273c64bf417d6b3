use Rattle.text.proofs.Digits.{digits_low, digits_high, digits_over, digits_more, digits_all}
use Rattle.text.proofs.number.digits_value.Goals as goal
use Rattle.text.proofs.number.digits_value.Goals.{then-c-lt48-via-then-c-lt48, then-c-lt48-via-else-c-lt48+then-c-gt57}

pub returns-then-c-lt48 : goal.returns-then-c-lt48
returns-then-c-lt48 c =
    elim c.then-c-lt48.branch [
      | then-c-lt48-via-then-c-lt48 w ↦ digits_low _ _ _ c.loop-c-test.true c.loop-c.invariant w.if-c-lt48.true
      | then-c-lt48-via-else-c-lt48+then-c-gt57 w ↦ digits_high _ _ _ c.loop-c-test.true c.loop-c.invariant w.if-c-gt57.true
    ]

pub returns-then-n-gt-NUMBER_LIMIT : goal.returns-then-n-gt-NUMBER_LIMIT
returns-then-n-gt-NUMBER_LIMIT c = digits_over _ _ _ c.loop-c-test.true c.loop-c.invariant c.if-n-gt-NUMBER_LIMIT.true

pub loop-c-preserved : goal.loop-c-preserved
loop-c-preserved c = digits_more _ _ _ c.loop-c-test.true c.loop-c.invariant c.if-c-lt48.false c.if-c-gt57.false c.if-n-gt-NUMBER_LIMIT.false

pub returns : goal.returns
returns c = digits_all _ _ _ c.loop-c-test.false c.loop-c.invariant
