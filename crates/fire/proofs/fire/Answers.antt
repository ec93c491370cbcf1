-- `fire::fire` meets its contract: the kind says which function gives the closure.
-- Assumes nothing.
use mathlib.Core.Path.{sym}
use Rattle.spec.specs.Kinds.{kind_of}
use Rattle.fire.proofs.Agree.{none_closed}
use Rattle.fire.proofs.Fired.{fired_like}
use Rattle.fire.proofs.fire.Goals as goal

pub returns-in-Ok-Equ : goal.returns-in-Ok-Equ
unfolding kind_of
returns-in-Ok-Equ c = fired_like c.args.kind 1 c.requires (rw c.in-Ok-Equ.field-0-is at c.in-Ok-Equ.ensures) c.fire_equ.ensures

pub returns-in-Ok-Not : goal.returns-in-Ok-Not
unfolding kind_of
returns-in-Ok-Not c = fired_like c.args.kind 2 c.requires (rw c.in-Ok-Not.field-0-is at c.in-Ok-Not.ensures) c.fire_not.ensures

pub returns-in-Ok-And : goal.returns-in-Ok-And
unfolding kind_of
returns-in-Ok-And c = fired_like c.args.kind 3 c.requires (rw c.in-Ok-And.field-0-is at c.in-Ok-And.ensures) c.fire_and.ensures

pub returns-in-Ok-Or : goal.returns-in-Ok-Or
unfolding kind_of
returns-in-Ok-Or c = fired_like c.args.kind 4 c.requires (rw c.in-Ok-Or.field-0-is at c.in-Ok-Or.ensures) c.fire_or.ensures

pub returns-in-Err : goal.returns-in-Err
unfolding kind_of
returns-in-Err c = fired_like c.args.kind 0 c.requires c.in-Err.ensures.1 (sym (none_closed c.requires))
