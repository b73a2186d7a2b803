mod BodyLemmas
mod ExchangeLemmas
mod GatheringLemmas
mod Tickets
