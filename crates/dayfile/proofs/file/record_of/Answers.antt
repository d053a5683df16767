-- Assumes nothing.
use Rattle.std.proofs.Common.{arith}
use Rattle.dayfile.proofs.Places.{command_from_lem, command_within, sound_layout}
use Rattle.dayfile.proofs.file.record_of.Goals as goal

pub overflow_mul-k : goal.overflow_mul-k
overflow_mul-k c = let l = sound_layout _ c.args.file.now.sound in omega arith

pub overflow_add-first : goal.overflow_add-first
overflow_add-first c =
    let f = c.args.file.now.bytes.now in
    omega (arith, command_within f c.args.file.now.sound _ c.requires.1, command_from_lem f _ c.args.k c.requires.0)

pub record_at-requires : goal.record_at-requires
record_at-requires c =
    let f = c.args.file.now.bytes.now in
    omega (arith, command_within f c.args.file.now.sound _ c.requires.1, command_from_lem f _ c.args.k c.requires.0)
