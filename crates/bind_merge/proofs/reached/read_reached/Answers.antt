use Rattle.std.proofs.Common.{◌≡◌, ◌∙◌, List, Option, ap, length, nat_lt, sym, true, ℕ}
use Rattle.std.specs.List.{list_all}
use Rattle.bind_merge.specs.Listing.{read_files}
use Rattle.bind_merge.specs.declared.reading.Read.{Read}
use Rattle.bind_merge.specs.Inner.Reading.{is_read_at, own_at}
use Rattle.bind_merge.specs.Inner.Spreading.{included_by}
use Rattle.bind_merge.proofs.NamedFiles.{length-data}
use Rattle.bind_merge.proofs.Spreading.{included_listed, spread_step}
use Rattle.bind_merge.proofs.reached.read_reached.Goals as goal

pub read_all-requires-clause-listed : goal.read_all-requires-clause-listed
read_all-requires-clause-listed c =
    let all : list_all (λ k. nat_lt k (length c.args.files.now)) c.as_slice-in-Some.result.now ≡ true
    = ap (list_all (λ k. nat_lt k (length c.args.files.now))) (c.as_slice-in-Some.ensures.value ∙ c.in_ok-included.ensures)
    ∙ (ap (λ n. list_all (λ k. nat_lt k n) (included_by c.args.names.now (own_at c.as_slice.result.now c.in-Some.file))) (sym (length-data c.args.files.now))
    ∙ included_listed (read_files c.args.files.now) c.args.names.now c.requires.named (own_at c.as_slice.result.now c.in-Some.file)) in
    all

pub loop-file-preserved : goal.loop-file-preserved
loop-file-preserved c =
    spread_step (read_files c.args.files.now) c.args.names.now c.args.reads.now.items c.loop-file.reads.items c.read_all.new.reads.items c.loop-file.left.items
    c.pop.new.self.items c.read_all.new.left.items c.in-Some.file c.in-Some.ensures.items c.loop-file.invariant c.in_ok-read_all.ensures.spreads
    (ap (λ (rs : List (Option Read)). list_all (is_read_at c.read_all.new.reads.items) (included_by c.args.names.now (own_at rs c.in-Some.file))) (sym c.as_slice.ensures.value)
    ∙ (ap (list_all (is_read_at c.read_all.new.reads.items)) (sym (c.as_slice-in-Some.ensures.value ∙ c.in_ok-included.ensures)) ∙ c.in_ok-read_all.ensures.read))
