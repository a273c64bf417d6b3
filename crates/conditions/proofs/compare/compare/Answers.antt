use Rattle.std.proofs.Common.{rules}
use Rattle.conditions.proofs.Orders.{signs_differ, unsigned_order, signed_order}
use Rattle.conditions.proofs.compare.compare.Goals as goal

pub returns-in-SignedGreater : goal.returns-in-SignedGreater
returns-in-SignedGreater c =
    let d = signs_differ c.args.a.now c.args.b.now _ _ c.is_negative-a_negative.ensures c.is_negative-b_negative.ensures c.if-a_negative-b_negative.true in
    search rules

pub returns-in-SignedGreater-2 : goal.returns-in-SignedGreater-2
returns-in-SignedGreater-2 c =
    let o = signed_order c.args.a.now c.args.b.now c.requires (assumption) (assumption) _ _ c.is_negative-a_negative.ensures c.is_negative-b_negative.ensures c.if-a_negative-b_negative.false in
    search rules

pub returns-in-UnsignedGreater : goal.returns-in-UnsignedGreater
returns-in-UnsignedGreater c =
    let o = unsigned_order c.args.a.now c.args.b.now c.requires (assumption) (assumption) in
    search rules

pub returns-in-SignedLess : goal.returns-in-SignedLess
returns-in-SignedLess c =
    let d = signs_differ c.args.a.now c.args.b.now _ _ c.is_negative-a_negative.ensures c.is_negative-b_negative.ensures c.if-a_negative-b_negative-2.true in
    search rules

pub returns-in-SignedLess-2 : goal.returns-in-SignedLess-2
returns-in-SignedLess-2 c =
    let o = signed_order c.args.a.now c.args.b.now c.requires (assumption) (assumption) _ _ c.is_negative-a_negative.ensures c.is_negative-b_negative.ensures c.if-a_negative-b_negative-2.false in
    search rules

pub returns-in-UnsignedLess : goal.returns-in-UnsignedLess
returns-in-UnsignedLess c =
    let o = unsigned_order c.args.a.now c.args.b.now c.requires (assumption) (assumption) in
    search rules

pub returns-in-SignedGreaterOrEqual : goal.returns-in-SignedGreaterOrEqual
returns-in-SignedGreaterOrEqual c =
    let d = signs_differ c.args.a.now c.args.b.now _ _ c.is_negative-a_negative.ensures c.is_negative-b_negative.ensures c.if-a_negative-b_negative-3.true in
    search rules

pub returns-in-SignedGreaterOrEqual-2 : goal.returns-in-SignedGreaterOrEqual-2
returns-in-SignedGreaterOrEqual-2 c =
    let o = signed_order c.args.a.now c.args.b.now c.requires (assumption) (assumption) _ _ c.is_negative-a_negative.ensures c.is_negative-b_negative.ensures c.if-a_negative-b_negative-3.false in
    search rules

pub returns-in-UnsignedGreaterOrEqual : goal.returns-in-UnsignedGreaterOrEqual
returns-in-UnsignedGreaterOrEqual c =
    let o = unsigned_order c.args.a.now c.args.b.now c.requires (assumption) (assumption) in
    search rules

pub returns-in-SignedLessOrEqual : goal.returns-in-SignedLessOrEqual
returns-in-SignedLessOrEqual c =
    let d = signs_differ c.args.a.now c.args.b.now _ _ c.is_negative-a_negative.ensures c.is_negative-b_negative.ensures c.if-a_negative-b_negative-4.true in
    search rules

pub returns-in-SignedLessOrEqual-2 : goal.returns-in-SignedLessOrEqual-2
returns-in-SignedLessOrEqual-2 c =
    let o = signed_order c.args.a.now c.args.b.now c.requires (assumption) (assumption) _ _ c.is_negative-a_negative.ensures c.is_negative-b_negative.ensures c.if-a_negative-b_negative-4.false in
    search rules

pub returns-in-UnsignedLessOrEqual : goal.returns-in-UnsignedLessOrEqual
returns-in-UnsignedLessOrEqual c =
    let o = unsigned_order c.args.a.now c.args.b.now c.requires (assumption) (assumption) in
    search rules
