use Rattle.std.proofs.Common.{◌+◌, [], ◌∷◌, ◌++◌}
use Rattle.elf_writer.specs.Pieces.{half_bytes, words_bytes, zero_bytes}
use Rattle.workload_gen.proofs.ByteLemmas.{eight_pushed}
use Rattle.workload_gen.proofs.headers.push_file_header.Goals as goal

pub returns : goal.returns
returns c =
    eight_pushed
    c.args.out.now.items
    (127 ∷ 69 ∷ 76 ∷ 70 ∷ 1 ∷ 1 ∷ 1 ∷ zero_bytes 9 ++ half_bytes 2 ++ half_bytes 243)
    (words_bytes (1 ∷ c.args.entry ∷ 52 ∷ c.args.place ∷ 0 ∷ []))
    (half_bytes 52)
    (half_bytes 32)
    (half_bytes c.args.programs)
    (half_bytes 40)
    (half_bytes (c.args.sections + 1))
    (half_bytes c.args.sections)
    _
    _
    _
    _
    _
    _
    _
    _
    c.in_ok-push_identification.ensures
    c.in_ok-push_words.ensures
    c.in_ok-push_half.ensures
    c.in_ok-push_half-2.ensures
    c.in_ok-push_half-3.ensures
    c.in_ok-push_half-4.ensures
    c.in_ok-push_half-5.ensures
    c.in_ok-push_half-6.ensures
