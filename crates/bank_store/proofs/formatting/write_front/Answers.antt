use Rattle.std.proofs.Common.{length, ◌∙◌}
use Rattle.bank_store.proofs.Writing.{closed, wiped, put, erased}
use Rattle.bank_store.proofs.formatting.write_front.Goals as goal

pub returns-in_err-closed-clause-writes : goal.returns-in_err-closed-clause-writes
returns-in_err-closed-clause-writes g c =
    closed _ c.requires.settled c.args.area_blocks c.new.result c.new.ensures.place _ c.close.ensures.touches c.close.ensures.already

pub returns-in_err-wiped-clause-writes : goal.returns-in_err-wiped-clause-writes
returns-in_err-wiped-clause-writes g c = wiped _ c.requires.settled c.args.area_blocks _
    (closed _ c.requires.settled c.args.area_blocks c.new.result c.new.ensures.place _ c.close.ensures.touches c.close.ensures.already)
    c.new.result c.new.ensures.place (λ told. c.in_ok-closed.ensures.shut told) _ c.in_ok-closed.closed
    (c.in_ok-closed.ensures.place ∙ c.new.ensures.place) c.wipe.ensures.touches

pub returns-in_err-put-clause-writes : goal.returns-in_err-put-clause-writes
returns-in_err-put-clause-writes g c = put _ c.requires.settled c.args.area_blocks _
    (wiped _ c.requires.settled c.args.area_blocks _
    (closed _ c.requires.settled c.args.area_blocks c.new.result c.new.ensures.place _ c.close.ensures.touches c.close.ensures.already)
    c.new.result c.new.ensures.place (λ told. c.in_ok-closed.ensures.shut told) _ c.in_ok-closed.closed
    (c.in_ok-closed.ensures.place ∙ c.new.ensures.place) c.wipe.ensures.touches)
    c.in_ok-closed.closed (c.in_ok-closed.ensures.place ∙ c.new.ensures.place) c.wipe.ensures.shut
    (length c.args.octets.now) c.requires.fits _ c.put.ensures.touches

pub returns-clause-writes : goal.returns-clause-writes
returns-clause-writes g c = erased _ c.requires.settled c.args.area_blocks _
    (put _ c.requires.settled c.args.area_blocks _
    (wiped _ c.requires.settled c.args.area_blocks _
    (closed _ c.requires.settled c.args.area_blocks c.new.result c.new.ensures.place _ c.close.ensures.touches c.close.ensures.already)
    c.new.result c.new.ensures.place (λ told. c.in_ok-closed.ensures.shut told) _ c.in_ok-closed.closed
    (c.in_ok-closed.ensures.place ∙ c.new.ensures.place) c.wipe.ensures.touches)
    c.in_ok-closed.closed (c.in_ok-closed.ensures.place ∙ c.new.ensures.place) c.wipe.ensures.shut
    (length c.args.octets.now) c.requires.fits _ c.put.ensures.touches)
    c.in_ok-wiped.wiped (c.in_ok-wiped.ensures.place ∙ c.in_ok-closed.ensures.place ∙ c.new.ensures.place)
    c.put.ensures.shut _ c.erase.ensures.touches
